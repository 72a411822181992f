-- A call that is answered as ended did wait. Assumes nothing.
use Prim.Native.Nat.{ℕ}
use mathlib.Core.Path.{◌≡◌, refl, sym, ap, ◌∙◌}
use mathlib.Core.Bool.{Bool, true, false, not}
use mathlib.Core.List.{List}
use lib.Dec.{ltb}
use lib.ListN.{length}
use Rattle.codec.specs.Codec.{Read, got, no}
use Rattle.codec.proofs.Good.{not_both}
use Rattle.message.specs.Values.{identifier_in}
use Rattle.message.specs.Reading.{read_of}
use Rattle.message.specs.declared.Value.{Value}
use Rattle.records.specs.Records.{records_ok}
use Rattle.records.specs.declared.Record.{Record}
use Rattle.desk.specs.Desks.{desk_ok}
use Rattle.desk.specs.Grounds.{waits}
use Rattle.desk.specs.Orders.{unless, posts_of, marking_answer, has_one, interrogate_answer, end_answer, decide_answer, sent_answer, read_answer, message_answer, identifier_ok, reject_answer, cancel_answer, event_answer, answer_of}
use Rattle.desk.specs.Steps.{value_by, identifier_of, step_of}
use Rattle.desk.specs.declared.Answer.{Answer}
use Rattle.desk.specs.declared.Answer.TheVariants as answer
use Rattle.desk.specs.declared.Desk.{Desk}
use Rattle.desk.specs.declared.Event.{Event}
use Rattle.desk.specs.declared.Event.TheVariants as event
use Rattle.desk.proofs.AnswerLaws.{step_answer, by_type, setup_ok}
use Rattle.desk.proofs.SetUps.{not_true}

-- an answer that ends a waiting call
abbrev pub is_ending : Answer → Bool
is_ending (answer.Refused s) = false
is_ending answer.Acks = false
is_ending (answer.State k) = false
is_ending answer.Free = false
is_ending (answer.Admitted post place) = false
is_ending answer.Proceed = true
is_ending answer.Diverted = true
is_ending answer.Rejected = true
is_ending (answer.Cancelled post) = true
is_ending (answer.Moved post) = false

unless_not : (b : Bool) (c : ℕ) (a : Answer) → is_ending a ≡ false → is_ending (unless b c a) ≡ false
unless_not true c a e = refl
unless_not false c a e = e

module _ (d : Desk) where
  -- an identifier that does not wait gets 19
  end_not : (post identifier : ℕ) (a : Answer) → waits d identifier ≡ false → is_ending (end_answer d post identifier a) ≡ false
  unfolding end_answer
  end_not post identifier a e = rw e refl

  decide_not : (room post identifier : ℕ) (a : Answer) → waits d identifier ≡ false → is_ending (decide_answer d room post identifier a) ≡ false
  unfolding decide_answer
  decide_not room post identifier a e = unless_not (ltb room 300) 14 _ (end_not post identifier a e)

  reject_not : (room post identifier : ℕ) → waits d identifier ≡ false → is_ending (reject_answer d room post identifier) ≡ false
  unfolding reject_answer
  reject_not room post identifier e =
      unless_not (not (ltb post (posts_of d))) 2 _ (unless_not (not (identifier_ok identifier)) 16 _ (decide_not room post identifier answer.Rejected e))

  cancel_not : (room identifier : ℕ) → waits d identifier ≡ false → is_ending (cancel_answer d room identifier) ≡ false
  unfolding cancel_answer
  cancel_not room identifier e = rw e (unless_not (not (identifier_ok identifier)) 16 _ (unless_not (ltb room 300) 14 _ refl))

  module _ (rows : List Record) (n room post : ℕ) where
    sent_not : (v : Value) → waits d (identifier_in v) ≡ false → is_ending (sent_answer d rows n room post v) ≡ false
    unfolding marking_answer interrogate_answer
    sent_not v w =
        by_type d rows n room post v (λ a. is_ending a ≡ false)
        (λ given _. unless_not (ltb room 300) 14 _ (unless_not (not (records_ok rows n (posts_of d))) 15 _ (unless_not given 21 answer.Acks refl)))
        (λ _. unless_not (ltb room 300) 14 _ (unless_not (not (records_ok rows n (posts_of d))) 15 _ (unless_not (not (has_one d.profile.air)) 26 _ refl)))
        (decide_not room post (identifier_in v) _ w)
        (decide_not room post (identifier_in v) answer.Diverted w)
        (λ _. decide_not room post (identifier_in v) answer.Rejected w)
        refl

    message_not : (r : Read Value) → waits d (identifier_in (value_by r)) ≡ false → is_ending (read_answer r (λ v. sent_answer d rows n room post v)) ≡ false
    message_not (got v p) w = sent_not v w
    message_not (no s) w = refl

module _ (d : Desk) (rows : List Record) (n : ℕ) (l : List ℕ) (room : ℕ) where
  event_not : (e : Event) → waits d (identifier_of d.profile l e) ≡ false → is_ending (event_answer d rows n l room e) ≡ false
  unfolding message_answer
  event_not (event.Message post bits) w = unless_not (not (ltb post (posts_of d))) 2 _ (message_not d rows n room post (read_of d.profile l bits) w)
  event_not (event.SetUp caller called identifier cause) w =
      not_true _ (setup_ok (λ a. not (is_ending a)) (λ s p. refl) d rows n room caller called identifier cause refl (λ post place. refl))
  event_not (event.Reject post identifier) w = reject_not d room post identifier w
  event_not (event.Cancel identifier) w = cancel_not d room identifier w

  answer_not : (e : Event) → waits d (identifier_of d.profile l e) ≡ false → is_ending (answer_of d rows n l room e) ≡ false
  unfolding answer_of
  answer_not e w = unless_not (not (desk_ok d)) 1 _ (event_not e w)

pub ended_waits : (d : Desk) (rows : List Record) (n : ℕ) (l area : List ℕ) (e : Event) → is_ending (step_of d rows n l area e).answer ≡ true
    → waits d (identifier_of d.profile l e) ≡ true
ended_waits d rows n l area e z = go (waits d (identifier_of d.profile l e)) refl
  where
    go : (b : Bool) → waits d (identifier_of d.profile l e) ≡ b → b ≡ true
    go true w = refl
    go false w = not_both (sym (answer_not d rows n l (length area) e w) ∙ ap is_ending (sym (step_answer d rows n l area e)) ∙ z)
