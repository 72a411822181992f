-- Refusals of any call: their numbers are in the table, they come exactly by the orders, and they leave everything as it stood. Assumes nothing.
use Prim.Native.Nat.{ℕ, ◌<◌}
use mathlib.Core.Path.{◌≡◌, refl, sym, ap, ◌∙◌}
use mathlib.Core.Bool.{Bool, true}
use mathlib.Core.List.{List}
use native.Mathlib.Omega.{arith}
use lib.ListN.{length, take}
use Rattle.codec.specs.Stops.{refusal, published}
use Rattle.codec.specs.declared.Stop.{Stop}
use Rattle.records.specs.Marking.{no_marks}
use Rattle.records.specs.declared.Record.{Record}
use Rattle.sending.specs.Sending.{no_laid}
use Rattle.desk.specs.Grounds.{order_of}
use Rattle.desk.specs.Numbers.{number_of}
use Rattle.desk.specs.Orders.{answer_of}
use Rattle.desk.specs.Steps.{keeps, post_of, asked_of, spoken_of, step_of, area_after}
use Rattle.desk.specs.declared.Answer.{Answer}
use Rattle.desk.specs.declared.Answer.TheVariants as answer
use Rattle.desk.specs.declared.Desk.{Desk}
use Rattle.desk.specs.declared.Event.{Event}
use Rattle.desk.specs.declared.Event.TheVariants as event
use Rattle.desk.specs.declared.Stepped.{Stepped}
use Rattle.desk.proofs.PostLaws.{refused_by}
use Rattle.desk.proofs.AnswerLaws.{step_answer, past_published, answer_ok, Can}
use Rattle.desk.proofs.Exactly.{Comes, number_comes, comes_number}

-- a call left everything as it stood: the desk, the records (no mark is set), the output area (no message is laid)
pub record Kept (d : Desk) (l : List ℕ) (s : Stepped) (m : List ℕ) : Type 0 where
  pub desk : s.desk ≡ d
  pub marks : s.marks ≡ no_marks
  pub laid : s.laid ≡ no_laid
  pub area : m ≡ l

-- a refusal's number is in the table; other answers have none
abbrev known : Answer → Bool
known (answer.Refused s) = published s.number
known answer.Acks = true
known (answer.State k) = true
known answer.Free = true
known (answer.Admitted post place) = true
known answer.Proceed = true
known answer.Diverted = true
known answer.Rejected = true
known (answer.Cancelled post) = true
known (answer.Moved post) = true

one_known : known (answer.Refused (refusal 1)) ≡ true
unfolding refusal published
one_known = refl

module _ (d : Desk) (rows : List Record) (n : ℕ) (l area : List ℕ) (e : Event) where
  -- a refusal leaves everything as it stood: of a request to change marks too, of which no mark changes
  pub refused_keeps : (s : Stop) → (step_of d rows n l area e).answer ≡ answer.Refused s → Kept d area (step_of d rows n l area e) (area_after d rows n l area e)
  unfolding step_of area_after keeps
  refused_keeps s h =
      let z : answer_of d rows n l (length area) e ≡ answer.Refused s = sym (step_answer d rows n l area e) ∙ h in
      let k = refused_by d (take n rows) (post_of e) (asked_of d.profile l e) (spoken_of d.profile (take n rows) l e) area (answer_of d rows n l (length area) e) s s (keeps d (answer.Refused s)) refl refl z in
      record {
        desk = ap (λ (x : Stepped). x.desk) (sym k.0);
        marks = ap (λ (x : Stepped). x.marks) (sym k.0);
        laid = ap (λ (x : Stepped). x.laid) (sym k.0);
        area = sym k.1;
      }

  pub refused_known : (s : Stop) → (step_of d rows n l area e).answer ≡ answer.Refused s → published s.number ≡ true
  refused_known s h = ap known (sym (sym (step_answer d rows n l area e) ∙ h)) ∙ answer_ok known (λ t p. past_published t.number p) d rows n l (length area) one_known e (can e)
    where
      can : (x : Event) → Can known x
      can (event.Message post bits) = (refl, ((λ k. refl), (refl, (refl, (refl, λ k. refl)))))
      can (event.SetUp caller called identifier cause) = (refl, λ post place. refl)
      can (event.Reject post identifier) = refl
      can (event.Cancel identifier) = λ k. refl

  -- the number c comes exactly when its ground holds and no earlier one of the call's order does
  abbrev pub Exact : ℕ → Type 0
  Exact c =
      (number_of (step_of d rows n l area e).answer ≡ c → Comes c (order_of d rows n l (length area) e))
      × (Comes c (order_of d rows n l (length area) e) → number_of (step_of d rows n l area e).answer ≡ c)

  pub exact : (c : ℕ) → 0 < c → Exact c
  exact c h = (
    λ z. number_comes d rows n l (length area) e c h (ap number_of (sym (step_answer d rows n l area e)) ∙ z),
    λ w. ap number_of (step_answer d rows n l area e) ∙ comes_number d rows n l (length area) e c w,
  )

  -- 1 before all else
  pub exact_1 : Exact 1
  exact_1 = exact 1 (omega arith)

  -- a post's message, reject
  pub exact_2 : Exact 2
  exact_2 = exact 2 (omega arith)

  -- reading, from 3 to 13 without 8: a post's message
  pub exact_3 : Exact 3
  exact_3 = exact 3 (omega arith)

  pub exact_4 : Exact 4
  exact_4 = exact 4 (omega arith)

  pub exact_5 : Exact 5
  exact_5 = exact 5 (omega arith)

  pub exact_6 : Exact 6
  exact_6 = exact 6 (omega arith)

  pub exact_7 : Exact 7
  exact_7 = exact 7 (omega arith)

  pub exact_9 : Exact 9
  exact_9 = exact 9 (omega arith)

  pub exact_10 : Exact 10
  exact_10 = exact 10 (omega arith)

  pub exact_11 : Exact 11
  exact_11 = exact 11 (omega arith)

  pub exact_12 : Exact 12
  exact_12 = exact 12 (omega arith)

  pub exact_13 : Exact 13
  exact_13 = exact 13 (omega arith)

  -- a post's message
  pub exact_8 : Exact 8
  exact_8 = exact 8 (omega arith)

  -- ACTIVATE, DEACTIVATE, ACCEPT, DIVERT, REJECT, set-up, reject, cancel
  pub exact_14 : Exact 14
  exact_14 = exact 14 (omega arith)

  -- ACTIVATE, DEACTIVATE, INTERROGATE, set-up
  pub exact_15 : Exact 15
  exact_15 = exact 15 (omega arith)

  -- set-up, reject, cancel
  pub exact_16 : Exact 16
  exact_16 = exact 16 (omega arith)

  -- set-up
  pub exact_17 : Exact 17
  exact_17 = exact 17 (omega arith)

  -- set-up, ACCEPT for a move
  pub exact_18 : Exact 18
  exact_18 = exact 18 (omega arith)

  -- ACCEPT, DIVERT, REJECT, reject, cancel
  pub exact_19 : Exact 19
  exact_19 = exact 19 (omega arith)

  -- ACCEPT, DIVERT, REJECT, reject
  pub exact_20 : Exact 20
  exact_20 = exact 20 (omega arith)

  -- ACTIVATE
  pub exact_21 : Exact 21
  exact_21 = exact 21 (omega arith)

  -- INTERROGATE
  pub exact_26 : Exact 26
  exact_26 = exact 26 (omega arith)
