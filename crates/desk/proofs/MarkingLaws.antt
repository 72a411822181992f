-- A request to change marks: its order, ground by ground, and its ACKs. Assumes nothing.
use Prim.Native.Nat.{ℕ, zero, suc, ◌≤◌, ◌<◌}
use mathlib.Core.Path.{◌≡◌, refl, sym, ap, ◌∙◌, subst}
use mathlib.Core.Bool.{Bool, true, false, cond}
use mathlib.Core.List.{List, [], ◌∷◌}
use mathlib.Core.Logic.{⊎_elim}
use native.Mathlib.Omega.{arith}
use lib.Dec.{eqb}
use lib.ListN.{length}
use borrow.Author.Tests.{lt-ltb, le-ltb}
use Rattle.codec.specs.Stops.{refusal}
use Rattle.profile.specs.Rules.{profile_ok}
use Rattle.profile.specs.declared.Air.{Air}
use Rattle.profile.specs.declared.Profile.{Profile}
use Rattle.message.specs.Groups.{group_c, span_of}
use Rattle.message.specs.Acks.{mask_c}
use Rattle.message.specs.Rows.{dispatchers, ack_row, table, row_in, row_of, first_parts}
use Rattle.message.specs.Messages.{body_c}
use Rattle.message.specs.Reading.{read_of}
use Rattle.message.specs.Values.{no_value}
use Rattle.message.proofs.GroupLaws.{few_identities}
use Rattle.message.specs.declared.Group.{Group}
use Rattle.message.specs.declared.Value.{Value}
use Rattle.validity.specs.Validity.{valid_of}
use Rattle.writing.proofs.LengthLaws.{valid_body, begins_users}
use Rattle.records.specs.Identities.{identities_of}
use Rattle.records.specs.Records.{records_ok}
use Rattle.records.specs.Outcomes.{outcomes_of, sorted_of}
use Rattle.records.specs.Marking.{marks_of}
use Rattle.records.proofs.MaskLaws.{mask_carried}
use Rattle.records.specs.declared.Marks.{Marks}
use Rattle.records.specs.declared.Record.{Record}
use Rattle.records.specs.declared.Sorted.{Sorted}
use Rattle.sending.specs.Sending.{no_laid, all_laid, all_area}
use Rattle.sending.specs.Acks.{mask_at, acks_of}
use Rattle.sending.specs.declared.Laid.{Laid}
use Rattle.sending.proofs.SentLaws.{all_sent}
use Rattle.sending.proofs.AckLaws.{Request, acks_send, acks_few}
use Rattle.desk.specs.Orders.{posts_of, marking_answer}
use Rattle.desk.specs.Steps.{value_by, ack_for, asked_in, asked_of, acks_for, acks_step, acks_area}
use Rattle.desk.specs.declared.Answer.TheVariants as answer
use Rattle.desk.specs.declared.Desk.{Desk}
use Rattle.desk.specs.declared.Event.{Event}
use Rattle.desk.specs.declared.Event.TheVariants as event
use Rattle.desk.specs.declared.marking.Asked.{Asked}
use Rattle.desk.proofs.AnswerLaws.{Marking}

module _ (d : Desk) (rows : List Record) (n room : ℕ) (given : Bool) where
  pub marking_14 : room < 300 → marking_answer d rows n room given ≡ answer.Refused (refusal 14)
  unfolding marking_answer
  marking_14 h = rw (lt-ltb room 300 h) refl

  pub marking_15 : 300 ≤ room → records_ok rows n (posts_of d) ≡ false → marking_answer d rows n room given ≡ answer.Refused (refusal 15)
  unfolding marking_answer
  marking_15 h e = rw (le-ltb room 300 h, e) refl

  pub marking_21 : 300 ≤ room → records_ok rows n (posts_of d) ≡ true → given ≡ true → marking_answer d rows n room given ≡ answer.Refused (refusal 21)
  unfolding marking_answer
  marking_21 h e k = rw (le-ltb room 300 h, e, k) refl

  pub marking_acks : 300 ≤ room → records_ok rows n (posts_of d) ≡ true → given ≡ false → marking_answer d rows n room given ≡ answer.Acks
  unfolding marking_answer
  marking_acks h e k = rw (le-ltb room 300 h, e, k) refl

-- ---- what is asked

-- by ACKs
pub asked_ack : (v : Value) → row_of (asked_in v).ack ≡ ack_row
unfolding ack_for row_of row_in table
asked_ack v = go (eqb v.pdu 2)
  where
    go : (b : Bool) → row_of (cond b 3 5) ≡ ack_row
    go true = refl
    go false = refl

pub event_ack : (p : Profile) (l : List ℕ) (e : Event) → row_of (asked_of p l e).ack ≡ ack_row
event_ack p l (event.Message post bits) = asked_ack (value_by (read_of p l bits))
event_ack p l (event.SetUp caller called identifier cause) = asked_ack no_value
event_ack p l (event.Reject post identifier) = asked_ack no_value
event_ack p l (event.Cancel identifier) = asked_ack no_value

-- of good users, in a valid message
pub marking_users : (air : Air) (v : Value) → valid_of air v ≡ true → Marking v → (group_c air false false).ok v.users ≡ true
unfolding body_c row_of row_in table first_parts
marking_users air v ok m =
    ⊎_elim (λ e. begins_users air 2 [] (dispatchers ∷ []) v (body 2 e)) (λ e. begins_users air 4 [] [] v (body 4 e)) m
  where
    body : (t : ℕ) → v.pdu ≡ t → (body_c air t).ok v ≡ true
    body t e = subst (λ (u : ℕ). (body_c air u).ok v ≡ true) e (valid_body air v ok)

-- what is taken out of such a message
pub asked_good : (air : Air) (v : Value) (x : Asked) → x ≡ asked_in v → (group_c air false false).ok v.users ≡ true
    → (row_of x.ack ≡ ack_row) × ((group_c air false false).ok x.users ≡ true)
asked_good air v x e ok = (ap (λ (y : Asked). row_of y.ack) e ∙ asked_ack v, subst (λ (y : Asked). (group_c air false false).ok y.users ≡ true) (sym e) ok)

-- ---- the ACKs

-- of users that were read, the masks of their outcomes fit
pub request : (d : Desk) (rows : List Record) (post : ℕ) (asked : Asked) → row_of asked.ack ≡ ack_row → (group_c d.profile.air false false).ok asked.users ≡ true
    → Request d.profile asked.ack asked.users (sorted_of (outcomes_of d.profile.air asked.users rows post))
unfolding sorted_of
request d rows post asked ack ok =
    record { ack = ack; valid = ok; masks = masks }
  where
    air : Air
    air = d.profile.air

    users : Group
    users = asked.users

    few : span_of air users ≤ 64
    few = few_identities air false false users ok

    masks : (class : ℕ) → class < 3 → (mask_c (span_of air users)).ok (mask_at (sorted_of (outcomes_of air users rows post)) class) ≡ true
    masks zero h = mask_carried air users rows post 0 few
    masks (suc zero) h = mask_carried air users rows post 1 few
    masks (suc (suc zero)) h = mask_carried air users rows post 2 few
    masks (suc (suc (suc k))) h = absurd (omega arith)

pub acks_are : (d : Desk) (rows : List Record) (post : ℕ) (asked : Asked) → profile_ok d.profile ≡ true → row_of asked.ack ≡ ack_row → (group_c d.profile.air false false).ok asked.users ≡ true
    → (s : Sorted) (x : Laid) (l m : List ℕ) (marks : Marks) → 300 ≤ length l
    → s ≡ sorted_of (outcomes_of d.profile.air asked.users rows post)
    → (x ≡ all_laid d.profile no_laid l (acks_of d.profile.air asked.ack asked.users s)) × (m ≡ all_area d.profile no_laid l (acks_of d.profile.air asked.ack asked.users s))
    → marks ≡ marks_of asked.mark rows post (identities_of d.profile.air asked.users)
    → (record { answer = answer.Acks; laid = x; desk = d; marks = marks } ≡ acks_step d rows post asked) × (m ≡ acks_area d rows post asked l)
unfolding acks_step acks_area acks_for
acks_are d rows post asked passes ack ok s x l m marks room z e q =
    let r = request d rows post asked ack ok in
    let all = all_sent d.profile passes l (acks_for d rows post asked)
    (acks_few d.profile passes _ _ _ r) room (acks_send d.profile passes _ _ _ r) in
    let ex = (rw z at e.0) ∙ all.0 in
    let em = (rw z at e.1) ∙ all.1 in
    (rw (ex, q) refl, em)
