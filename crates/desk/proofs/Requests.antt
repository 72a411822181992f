-- A request to change marks that is carried out: the waiting calls stay, and what must have held; and that a DEACTIVATE is carried out where
-- that holds, and never refused with 21. Assumes nothing.
use Prim.Native.Nat.{ℕ, ◌≤◌}
use mathlib.Core.Path.{◌≡◌, refl, sym, ap, ◌∙◌}
use mathlib.Core.Bool.{Bool, true, false, not}
use mathlib.Core.List.{List}
use lib.Dec.{ltb}
use borrow.Author.Tests.{eq-eqb, ne_eqb, le-ltb}
use native.Mathlib.Omega.{arith}
use Rattle.codec.specs.Codec.{Read, got, no}
use Rattle.codec.specs.Stops.{refusal}
use Rattle.codec.proofs.Good.{not_both}
use Rattle.message.specs.Reading.{read_of}
use Rattle.message.specs.declared.Value.{Value}
use Rattle.records.specs.Records.{records_ok}
use Rattle.records.specs.declared.Record.{Record}
use Rattle.desk.specs.Desks.{desk_ok}
use Rattle.desk.specs.Numbers.{number_of}
use Rattle.desk.specs.Orders.{unless, posts_of, marking_answer, sent_answer, read_answer, message_answer, answer_of}
use Rattle.desk.specs.Steps.{acks_step, is_acks, step_of}
use Rattle.desk.specs.declared.Answer.{Answer}
use Rattle.desk.specs.declared.Answer.TheVariants as answer
use Rattle.desk.specs.declared.Desk.{Desk}
use Rattle.desk.specs.declared.Event.{Event}
use Rattle.desk.specs.declared.Event.TheVariants as event
use Rattle.desk.specs.declared.Stepped.{Stepped}
use Rattle.desk.proofs.AnswerLaws.{step_acks, by_type}
use Rattle.desk.proofs.EndLaws.{accept_plain}
use Rattle.desk.proofs.Moves.{not_false}
use Rattle.desk.proofs.PostLaws.{decide_plain, interrogate_plain}

-- ---- the waiting calls stay

module _ (d : Desk) (rows : List Record) (n : ℕ) (l area : List ℕ) (e : Event) where
  -- a request that is carried out, to set marks or to clear them, leaves the desk as it stood: every place, so every waiting call
  pub acks_stay : is_acks (step_of d rows n l area e).answer ≡ true → (step_of d rows n l area e).desk ≡ d
  unfolding acks_step
  acks_stay h = ap (λ (s : Stepped). s.desk) (step_acks d rows n l area e h)

-- ---- what held

-- no refusal is ACKs
past : (b : Bool) (c : ℕ) (a : Answer) → is_acks (unless b c a) ≡ true → (b ≡ false) × (is_acks a ≡ true)
past true c a z = not_both z
past false c a z = (refl, z)

module _ (d : Desk) (rows : List Record) (n room post : ℕ) where
  -- the records passed 15
  sent_sound : (v : Value) → is_acks (sent_answer d rows n room post v) ≡ true → records_ok rows n (posts_of d) ≡ true
  unfolding marking_answer
  sent_sound v =
      by_type d rows n room post v (λ a. is_acks a ≡ true → records_ok rows n (posts_of d) ≡ true)
      (λ given _ z. not_false _ (past (not (records_ok rows n (posts_of d))) 15 _ (past (ltb room 300) 14 _ z).1).0)
      (λ _ z. not_both (sym (interrogate_plain d rows n room post v) ∙ z))
      (λ z. not_both (sym (decide_plain d room post _ _ (accept_plain d _)) ∙ z))
      (λ z. not_both (sym (decide_plain d room post _ answer.Diverted refl) ∙ z))
      (λ _ z. not_both (sym (decide_plain d room post _ answer.Rejected refl) ∙ z))
      (λ z. not_both z)

  read_sound : (r : Read Value) → is_acks (read_answer r (λ v. sent_answer d rows n room post v)) ≡ true → records_ok rows n (posts_of d) ≡ true
  read_sound (got v q) z = sent_sound v z
  read_sound (no s) z = not_both z

  module _ (l : List ℕ) (bits : ℕ) where
    -- a message that is answered by ACKs: 1, 2 and 15 did not come
    pub acks_sound : is_acks (answer_of d rows n l room (event.Message post bits)) ≡ true
        → (desk_ok d ≡ true) × ((ltb post (posts_of d) ≡ true) × (records_ok rows n (posts_of d) ≡ true))
    unfolding answer_of message_answer
    acks_sound z =
        let a = past (not (desk_ok d)) 1 _ z in
        let b = past (not (ltb post (posts_of d))) 2 _ a.1 in
        (not_false _ a.0, (not_false _ b.0, read_sound (read_of d.profile l bits) b.1))

    -- and a DEACTIVATE, where they do not and there is room for its ACKs, is answered so
    pub deactivate_acks : desk_ok d ≡ true → ltb post (posts_of d) ≡ true → records_ok rows n (posts_of d) ≡ true → 300 ≤ room
        → (v : Value) (q : ℕ) → read_of d.profile l bits ≡ got v q → v.pdu ≡ 4 → answer_of d rows n l room (event.Message post bits) ≡ answer.Acks
    unfolding answer_of message_answer sent_answer marking_answer
    deactivate_acks a b k h v q e t =
        let two : v.pdu ≡ 2 → ⊥ = λ z. omega (arith, z, t) in
        rw (a, b, e, ne_eqb v.pdu 2 two, eq-eqb v.pdu 4 t, le-ltb room 300 h, k) refl

    -- 21 never comes for it: it has no option
    pub deactivate_21 : (v : Value) (q : ℕ) → read_of d.profile l bits ≡ got v q → v.pdu ≡ 4
        → number_of (answer_of d rows n l room (event.Message post bits)) ≡ 21 → ⊥
    unfolding answer_of message_answer sent_answer marking_answer refusal
    deactivate_21 v q e t =
        let two : v.pdu ≡ 2 → ⊥ = λ z. omega (arith, z, t) in
        rw (e, ne_eqb v.pdu 2 two, eq-eqb v.pdu 4 t) (go (desk_ok d) (ltb post (posts_of d)) (ltb room 300) (records_ok rows n (posts_of d)))
      where
        go : (a b short sound : Bool) → number_of (unless (not a) 1 (unless (not b) 2 (unless short 14 (unless (not sound) 15 answer.Acks)))) ≡ 21 → ⊥
        go false b short sound z = omega (arith, z)
        go true false short sound z = omega (arith, z)
        go true true true sound z = omega (arith, z)
        go true true false false z = omega (arith, z)
        go true true false true z = omega (arith, z)
