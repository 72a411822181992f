-- The ACKs of a request, of the type that answers it: one for each different outcome, in the order accepted, U, N. Each repeats the request's users. With one
-- outcome the mask is absent; with several each mask has a one just at the identities with that outcome.
use Rattle.std.specs.Prelude.{ℕ, ◌+◌, Bool, false, cond, List, [], ◌∷◌, ◌++◌, eqb, ltb, get_or}
use Rattle.profile.specs.Counting.{one}
use Rattle.profile.specs.declared.Air.{Air}
use Rattle.message.specs.Values.{blank, with_users, with_mask}
use Rattle.message.specs.Rows.{put}
use Rattle.message.specs.declared.Group.{Group}
use Rattle.message.specs.declared.Part.TheVariants as part
use Rattle.message.specs.declared.Value.{Value}
use Rattle.records.specs.declared.Sorted.{Sorted}

-- the outcomes by class: 0 accepted, 1 failure U (and N where they are equal), 2 failure N
abbrev pub is_there : Sorted → ℕ → Bool
is_there s class = get_or s.some class false

abbrev pub mask_at : Sorted → ℕ → ℕ
mask_at s class = get_or s.mask class 0

-- result 1 is accepted
unfoldable pub result_of : ℕ → ℕ
result_of class = cond (eqb class 0) 1 0

unfoldable pub reason_of : Air → ℕ → ℕ
reason_of air class = cond (eqb class 0) 0 (cond (eqb class 1) air.unknown air.other)

-- more than one outcome
unfoldable pub several_in : List Bool → Bool
several_in some = ltb 1 (one (get_or some 0 false) + one (get_or some 1 false) + one (get_or some 2 false))

-- an ACK of type t with these contents
unfoldable pub ack_v : ℕ → Group → Bool → ℕ → ℕ → ℕ → Value
ack_v t users masked mask result reason = put part.Result (result, reason) (with_mask masked mask (with_users users (blank t)))

unfoldable pub ack_of : Air → ℕ → Group → Sorted → ℕ → Value
ack_of air t users s class = ack_v t users (several_in s.some) (cond (several_in s.some) (mask_at s class) 0) (result_of class) (reason_of air class)

abbrev pub ack_if : Air → ℕ → Group → Sorted → ℕ → List Value
ack_if air t users s class = cond (is_there s class) (ack_of air t users s class ∷ []) []

unfoldable pub acks_of : Air → ℕ → Group → Sorted → List Value
acks_of air t users s = ack_if air t users s 0 ++ (ack_if air t users s 1 ++ ack_if air t users s 2)
