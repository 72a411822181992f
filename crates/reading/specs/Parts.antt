-- What the header is refused with; what reading a part, an option, and a row's parts and options makes of the value so far.
use Rattle.std.specs.Prelude.{ℕ, zero, suc, Bool, true, false, cond, ◌||◌, List, [], ◌∷◌, eqb}
use Rattle.codec.specs.Stops.{refusal}
use Rattle.codec.specs.Codec.{Read, got, no, bind, both}
use Rattle.codec.specs.Options.{flag}
use Rattle.profile.specs.declared.Air.{Air}
use Rattle.message.specs.Elements as element
use Rattle.message.specs.Values.{with_given}
use Rattle.message.specs.Rows.{part_c, put}
use Rattle.message.specs.Messages.{is_known, is_carried}
use Rattle.message.specs.declared.Value.{Value}
use Rattle.message.specs.declared.Part.{Part}
use Rattle.message.specs.declared.Slot.{Slot}

-- the number that a kind other than 1 and 2 is refused with
unfoldable pub no_kind : Bool → ℕ → ℕ
no_kind external k = cond (both external (eqb k 3)) 27 10

-- an SS type and a PDU type that were read: 5, 6, 7
unfoldable pub judged_of : ℕ → ℕ → ℕ → ℕ → Read (ℕ × ℕ)
judged_of ss x t p = cond (eqb x ss) (cond (is_known t) (cond (is_carried t) (got (x, t) p) (no (refusal 7))) (no (refusal 6))) (no (refusal 5))

unfoldable pub part_read : Air → Value → Part → (ℕ → ℕ) → ℕ → ℕ → Read Value
part_read air v p f n at = bind ((part_c air v p).read f n at) (λ x q. got (put p x v) q)

-- the first k of these slots
unfoldable pub parts_read : Air → Value → ℕ → List Slot → (ℕ → ℕ) → ℕ → ℕ → Read Value
parts_read air v zero l f n at = got v at
parts_read air v (suc k) [] f n at = got v at
parts_read air v (suc k) (s ∷ l) f n at = bind (part_read air v s.part f n at) (λ w q. parts_read air w k l f n q)

-- the i-th option: whether it is there, and the value with it
unfoldable pub option_read : Air → ℕ → Value → Part → (ℕ → ℕ) → ℕ → ℕ → Read (Bool × Value)
option_read air i v p f n at =
    bind ((flag element.p_bit).read f n at) (λ b q. cond b (bind (part_read air v p f n q) (λ w r. got (true, with_given i true w) r)) (got (false, v) q))

-- the first k of these slots, from the i-th option on; one is there, or `some` says so
unfoldable pub each_read : Air → ℕ → Bool → Value → ℕ → List Slot → (ℕ → ℕ) → ℕ → ℕ → Read (Bool × Value)
each_read air i some v zero l f n at = got (some, v) at
each_read air i some v (suc k) [] f n at = got (some, v) at
each_read air i some v (suc k) (s ∷ l) f n at =
    bind (option_read air i v s.part f n at) (λ x q. each_read air (suc i) (some || x.0) x.1 k l f n q)

-- after an O-bit of 1
unfoldable pub behind_read : Air → Value → ℕ → List Slot → (ℕ → ℕ) → ℕ → ℕ → Read Value
behind_read air v k l f n at = bind (each_read air 0 false v k l f n at) (λ x q. cond x.0 (got x.1 q) (no (refusal 12)))

-- a row without an option has no O-bit
unfoldable pub options_read : Air → Value → ℕ → List Slot → (ℕ → ℕ) → ℕ → ℕ → Read Value
options_read air v zero l f n at = got v at
options_read air v (suc k) l f n at = bind ((flag element.o_bit).read f n at) (λ b q. cond b (behind_read air v (suc k) l f n q) (got v q))
