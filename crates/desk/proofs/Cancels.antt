-- A call that is answered as cancelled waited, at the post that the answer names. Assumes nothing.
use Prim.Native.Nat.{ℕ}
use mathlib.Core.Path.{◌≡◌, refl, sym, ap, ◌∙◌}
use mathlib.Core.Bool.{Bool, true, false, not}
use mathlib.Core.List.{List}
use lib.Dec.{ltb}
use lib.ListN.{length}
use Rattle.codec.proofs.Good.{not_both}
use Rattle.records.specs.declared.Record.{Record}
use Rattle.desk.specs.Desks.{desk_ok}
use Rattle.desk.specs.Grounds.{waits}
use Rattle.desk.specs.Orders.{unless, identifier_ok, post_at, cancel_answer, answer_of}
use Rattle.desk.specs.Steps.{identifier_of, step_of}
use Rattle.desk.specs.declared.Answer.{Answer}
use Rattle.desk.specs.declared.Answer.TheVariants as answer
use Rattle.desk.specs.declared.Desk.{Desk}
use Rattle.desk.specs.declared.Event.{Event}
use Rattle.desk.specs.declared.Event.TheVariants as event
use Rattle.desk.proofs.AnswerLaws.{step_answer, answer_ok}
use Rattle.desk.proofs.Moves.{not_false}

abbrev is_cancelled : Answer → Bool
is_cancelled (answer.Refused s) = false
is_cancelled answer.Acks = false
is_cancelled (answer.State k) = false
is_cancelled answer.Free = false
is_cancelled (answer.Admitted post place) = false
is_cancelled answer.Proceed = false
is_cancelled answer.Diverted = false
is_cancelled answer.Rejected = false
is_cancelled (answer.Cancelled post) = true
is_cancelled (answer.Moved post) = false

-- the post of a cancel
abbrev cancelled_at : Answer → ℕ
cancelled_at (answer.Refused s) = 0
cancelled_at answer.Acks = 0
cancelled_at (answer.State k) = 0
cancelled_at answer.Free = 0
cancelled_at (answer.Admitted post place) = 0
cancelled_at answer.Proceed = 0
cancelled_at answer.Diverted = 0
cancelled_at answer.Rejected = 0
cancelled_at (answer.Cancelled post) = post
cancelled_at (answer.Moved post) = 0

abbrev never : Answer → Bool
never a = not (is_cancelled a)

-- the call waits, and at this post
pub record CancelledCall (d : Desk) (identifier post : ℕ) : Type 0 where
  pub waiting : waits d identifier ≡ true
  pub there : post_at d identifier ≡ post

module _ (post : ℕ) where
  -- no refusal is a cancel
  past : (b : Bool) (c : ℕ) (a : Answer) → unless b c a ≡ answer.Cancelled post → (b ≡ false) × (a ≡ answer.Cancelled post)
  past true c a z = not_both (ap is_cancelled z)
  past false c a z = (refl, z)

  module _ (d : Desk) (rows : List Record) (n : ℕ) (l : List ℕ) (room : ℕ) where
    cancel_cancelled : (identifier : ℕ) → cancel_answer d room identifier ≡ answer.Cancelled post → CancelledCall d identifier post
    unfolding cancel_answer
    cancel_cancelled identifier z =
        let w = past (not (waits d identifier)) 19 _ (past (ltb room 300) 14 _ (past (not (identifier_ok identifier)) 16 _ z).1).1 in
        record { waiting = not_false _ w.0; there = ap cancelled_at w.1 }

    event_cancelled : (e : Event) → answer_of d rows n l room e ≡ answer.Cancelled post → CancelledCall d (identifier_of d.profile l e) post
    unfolding answer_of
    event_cancelled (event.Message from bits) z =
        not_both (ap never (sym z) ∙ answer_ok never (λ s p. refl) d rows n l room refl (event.Message from bits) (refl, ((λ k. refl), (refl, (refl, (refl, λ k. refl))))))
    event_cancelled (event.SetUp caller called identifier cause) z =
        not_both (ap never (sym z) ∙ answer_ok never (λ s p. refl) d rows n l room refl (event.SetUp caller called identifier cause) (refl, λ at place. refl))
    event_cancelled (event.Reject from identifier) z = not_both (ap never (sym z) ∙ answer_ok never (λ s p. refl) d rows n l room refl (event.Reject from identifier) refl)
    event_cancelled (event.Cancel identifier) z = cancel_cancelled identifier (past (not (desk_ok d)) 1 _ z).1

pub cancelled_so : (d : Desk) (rows : List Record) (n : ℕ) (l area : List ℕ) (post : ℕ) (e : Event) → (step_of d rows n l area e).answer ≡ answer.Cancelled post
    → CancelledCall d (identifier_of d.profile l e) post
cancelled_so d rows n l area post e z = event_cancelled post d rows n l (length area) e (sym (step_answer d rows n l area e) ∙ z)
