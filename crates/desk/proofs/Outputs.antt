-- The output area after any call: bytes that no message fills are as they stood, and each message that the call says it laid is read from
-- its place as the value that was sent. Assumes nothing.
use Prim.Native.Nat.{ℕ, ◌^◌, ◌≤◌, ◌<◌}
use mathlib.Core.Path.{◌≡◌, refl, sym, ap, ◌∙◌, subst}
use mathlib.Core.Bool.{Bool, true, false, not, cond}
use mathlib.Core.List.{List, [], ◌∷◌}
use mathlib.Core.Logic.{⊎_elim}
use native.Mathlib.Omega.{arith}
use lib.Dec.{ltb}
use lib.ListN.{length, get_or, take}
use borrow.Author.Tests.{lt-ltb, ltb-true}
use Rattle.bits.proofs.SetLaws.{lt_or}
use Rattle.codec.specs.Codec.{Read, got, no}
use Rattle.codec.proofs.Good.{both_left, both_right, not_both}
use Rattle.profile.specs.Rules.{profile_ok}
use Rattle.profile.specs.declared.Profile.{Profile}
use Rattle.message.specs.Addresses.{address_c}
use Rattle.message.specs.Groups.{group_c}
use Rattle.message.specs.Rows.{ack_row, row_of}
use Rattle.message.specs.Values.{identifier_in}
use Rattle.message.specs.Reading.{read_of}
use Rattle.message.specs.declared.Value.{Value}
use Rattle.reading.specs.Answers.{reading_of}
use Rattle.validity.specs.Validity.{valid_of}
use Rattle.writing.proofs.RoundTrips.{read_valid}
use Rattle.places.specs.Held.{place_in, admits_of}
use Rattle.places.specs.Spots.{place_of, lowest_free, clear_of}
use Rattle.places.proofs.PlaceLaws.{passes}
use Rattle.records.specs.Records.{records_ok, restricted_of}
use Rattle.records.specs.declared.Identity.{Identity}
use Rattle.records.specs.declared.Party.{Party}
use Rattle.records.specs.declared.Record.{Record}
use Rattle.sending.specs.Sending.{lay_all, laid_of}
use Rattle.sending.specs.declared.Laid.{Laid}
use Rattle.sending.proofs.SentLaws.{Sends, AllSend}
use Rattle.sending.proofs.AckLaws.{acks_send, acks_few, intercepted_sends, accepted_sends, diverted_sends}
use Rattle.desk.specs.Desks.{desk_ok}
use Rattle.desk.specs.Grounds.{waits, waits_here}
use Rattle.desk.specs.Orders.{unless, posts_of, places_of, marking_answer, has_one, interrogate_answer, end_answer, move_answer, accept_answer, decide_answer, sent_answer, read_answer, message_answer, identifier_ok, set_up_ok, admit_answer, party_answer, set_up_answer, reject_answer, post_at, cancel_answer, event_answer, answer_of}
use Rattle.desk.specs.Steps.{Spoken, named, asked_in, said_in, value_by, asked_of, spoken_of, messages_by, plain_step, plain_area, acks_for, acks_step, acks_area, is_acks, step_by, area_by, post_of, step_of, area_after}
use Rattle.desk.specs.Outputs.{messages_for, sent_by, Unfilled, ReadBack}
use Rattle.desk.specs.declared.Answer.{Answer}
use Rattle.desk.specs.declared.Answer.TheVariants as answer
use Rattle.desk.specs.declared.Desk.{Desk}
use Rattle.desk.specs.declared.Event.{Event}
use Rattle.desk.specs.declared.Event.TheVariants as event
use Rattle.desk.specs.declared.marking.Asked.{Asked}
use Rattle.desk.proofs.MarkingLaws.{asked_ack, marking_users, request}
use Rattle.desk.proofs.AnswerLaws.{by_type}
use Rattle.desk.proofs.EndLaws.{waits_first}
use Rattle.desk.proofs.Moves.{not_false}
use Rattle.desk.proofs.NoticeLaws.{request_sends, rejected_sends, cancel_sends, reject_cause, asked_user, state_sends}
use Rattle.desk.proofs.SetUpLaws.{setup_identifier, setup_cause}
use Rattle.desk.proofs.LaidLaws.{laid_count, unfilled_stay, all_length, all_read}

-- ---- a call lays what it sends

module _ (d : Desk) (rows : List Record) (n : ℕ) (l area : List ℕ) (e : Event) where
  pub step_lays : (step_of d rows n l area e).laid ≡ laid_of d.profile.air (sent_by d rows n l (length area) e)
  unfolding step_of step_by acks_step plain_step sent_by
  step_lays = go (is_acks a)
    where
      a : Answer
      a = answer_of d rows n l (length area) e

      go : (b : Bool) → (cond b (acks_step d (take n rows) (post_of e) (asked_of d.profile l e)) (plain_step d (spoken_of d.profile (take n rows) l e) a)).laid ≡ laid_of d.profile.air (cond b (acks_for d (take n rows) (post_of e) (asked_of d.profile l e)) (messages_by d (spoken_of d.profile (take n rows) l e) a))
      go true = refl
      go false = refl

  pub step_fills : area_after d rows n l area e ≡ lay_all d.profile.air area (sent_by d rows n l (length area) e)
  unfolding area_after area_by acks_area plain_area sent_by
  step_fills = go (is_acks a)
    where
      a : Answer
      a = answer_of d rows n l (length area) e

      go : (b : Bool) → cond b (acks_area d (take n rows) (post_of e) (asked_of d.profile l e) area) (plain_area d (spoken_of d.profile (take n rows) l e) area a) ≡ lay_all d.profile.air area (cond b (acks_for d (take n rows) (post_of e) (asked_of d.profile l e)) (messages_by d (spoken_of d.profile (take n rows) l e) a))
      go true = refl
      go false = refl

-- ---- what it sends can be sent

-- at most three messages, each of which can be sent, and room for them
pub record Fits (p : Profile) (room : ℕ) (vs : List Value) : Type 0 where
  pub few : length vs ≤ 3
  pub sends : AllSend p vs
  pub room_for_lem : 0 < length vs → 300 ≤ room

nothing_fits : (p : Profile) (room : ℕ) → Fits p room []
nothing_fits p room = record { few = omega arith; sends = tt; room_for_lem = λ h. absurd (omega arith) }

one_fits : (p : Profile) (room : ℕ) → 300 ≤ room → (v : Value) → Sends p v → Fits p room (v ∷ [])
one_fits p room h v s = record { few = omega arith; sends = (s, tt); room_for_lem = λ z. h }

room_is : (room : ℕ) → ltb room 300 ≡ false → 300 ≤ room
room_is room e = ⊎_elim (λ h. not_both (sym (sym (lt-ltb room 300 h) ∙ e))) (λ h. h) (lt_or room 300)

module _ (d : Desk) (rows : List Record) (post : ℕ) (asked : Asked) (spoken : Spoken) (room : ℕ) where
  abbrev Fit : Answer → Type 0
  Fit a = Fits d.profile room (messages_for d rows post asked spoken a)

  unless_fits : (b : Bool) (c : ℕ) (a : Answer) → (b ≡ false → Fit a) → Fit (unless b c a)
  unless_fits true c a h = nothing_fits d.profile room
  unless_fits false c a h = h refl

  plain_fits : (b : Bool) (c : ℕ) (a : Answer) → Fit a → Fit (unless b c a)
  plain_fits b c a h = unless_fits b c a (λ e. h)

  decide_fits : (at identifier : ℕ) (a : Answer) → (300 ≤ room → waits d identifier ≡ true → Fit a) → Fit (decide_answer d room at identifier a)
  unfolding decide_answer end_answer
  decide_fits at identifier a h =
      unless_fits (ltb room 300) 14 _
      (λ e. unless_fits (not (waits d identifier)) 19 _ (λ w. plain_fits (not (waits_here d at identifier)) 20 a (h (room_is room e) (not_false _ w))))

  module _ (ok : desk_ok d ≡ true) where
    sound : profile_ok d.profile ≡ true
    unfolding desk_ok
    sound = both_left _ _ ok

    abbrev place : ℕ
    place = (place_of (places_of d) spoken.identifier).place

    -- a call that waits and moves
    moved_fits : 300 ≤ room → waits d spoken.identifier ≡ true → (at : ℕ) → Fit (answer.Moved at)
    unfolding desk_ok
    moved_fits h w at =
        let f = waits_first d spoken.identifier w in
        let c = (passes d.profile.shares (places_of d) (both_right (profile_ok d.profile) _ ok)).calls place f.inside f.used in
        one_fits d.profile room h _ (request_sends d.profile sound (place_in (places_of d) place).identifier (place_in (places_of d) place).cause c.small c.cause)

    accept_fits : 300 ≤ room → waits d spoken.identifier ≡ true → Fit (accept_answer d place)
    unfolding accept_answer move_answer
    accept_fits h w = go (place_in (places_of d) place).more
      where
        go : (b : Bool) → Fit (cond b (move_answer d place (place_in (places_of d) place).second) answer.Proceed)
        go true =
            plain_fits (not (admits_of d.profile.shares (clear_of (places_of d) place) (place_in (places_of d) place).second)) 18 (answer.Moved (place_in (places_of d) place).second) (moved_fits h w (place_in (places_of d) place).second)
        go false = one_fits d.profile room h _ (accepted_sends d.profile sound)

    diverted_fits : 300 ≤ room → Fit answer.Diverted
    diverted_fits h = one_fits d.profile room h _ (diverted_sends d.profile sound)

    rejected_fits : 300 ≤ room → spoken.cause < 2 ^ 5 → Fit answer.Rejected
    rejected_fits h k = one_fits d.profile room h _ (rejected_sends d.profile sound spoken.cause k)

    state_fits : 300 ≤ room → has_one d.profile.air ≡ true → (address_c false).ok spoken.user ≡ true → (k : ℕ) → Fit (answer.State k)
    state_fits h has good k = one_fits d.profile room h _ (state_sends d.profile sound (ltb-true _ _ has) spoken.user good k)

    interrogate_fits : (all : List Record) (n at : ℕ) (v : Value) → (address_c false).ok spoken.user ≡ true → Fit (interrogate_answer d all n room at v)
    unfolding interrogate_answer
    interrogate_fits all n at v good =
        unless_fits (ltb room 300) 14 _
        (λ e. plain_fits (not (records_ok all n (posts_of d))) 15 _
        (unless_fits (not (has_one d.profile.air)) 26 _ (λ w. state_fits (room_is room e) (not_false _ w) good _)))

    admitted_fits : 300 ≤ room → spoken.identifier < 2 ^ 14 → spoken.cause < 2 ^ 5 → (at to : ℕ) → Fit (answer.Admitted at to)
    admitted_fits h i k at to =
        record { few = omega arith; sends = (intercepted_sends d.profile sound, (request_sends d.profile sound spoken.identifier spoken.cause i k, tt)); room_for_lem = λ z. h }

    acks_fits : 300 ≤ room → row_of asked.ack ≡ ack_row → (group_c d.profile.air false false).ok asked.users ≡ true → Fit answer.Acks
    unfolding acks_for
    acks_fits h ack good =
        let r = request d rows post asked ack good in
        record { few = acks_few d.profile sound _ _ _ r; sends = acks_send d.profile sound _ _ _ r; room_for_lem = λ z. h }

    marking_fits : (all : List Record) (n : ℕ) (given : Bool) → row_of asked.ack ≡ ack_row → (group_c d.profile.air false false).ok asked.users ≡ true
        → Fit (marking_answer d all n room given)
    unfolding marking_answer
    marking_fits all n given ack good =
        unless_fits (ltb room 300) 14 _
        (λ e. plain_fits (not (records_ok all n (posts_of d))) 15 _ (plain_fits given 21 answer.Acks (acks_fits (room_is room e) ack good)))

    party_fits : 300 ≤ room → spoken.identifier < 2 ^ 14 → spoken.cause < 2 ^ 5 → (p : Party) → Fit (party_answer d p)
    unfolding admit_answer
    party_fits h i k p = go p.found
      where
        go : (b : Bool) → Fit (cond b (admit_answer d p.post) answer.Free)
        go true = plain_fits (not (admits_of d.profile.shares (places_of d) p.post)) 18 (answer.Admitted p.post (lowest_free (places_of d)).place) (admitted_fits h i k p.post (lowest_free (places_of d)).place)
        go false = nothing_fits d.profile room

    setup_fits : (all : List Record) (n : ℕ) (caller called : Identity) → Fit (set_up_answer d all n room caller called spoken.identifier spoken.cause)
    unfolding set_up_answer
    setup_fits all n caller called =
        unless_fits (not (set_up_ok caller called spoken.identifier spoken.cause)) 16 _
        (λ w.
        let formed = not_false _ w in
        unless_fits (ltb room 300) 14 _
        (λ e. plain_fits (not (records_ok all n (posts_of d))) 15 _
        (plain_fits (waits d spoken.identifier) 17 _
        (party_fits (room_is room e) (setup_identifier caller called spoken.identifier spoken.cause formed) (setup_cause caller called spoken.identifier spoken.cause formed) (restricted_of (take n all) (caller ∷ called ∷ []))))))

    reject_fits : (at : ℕ) → spoken.cause < 2 ^ 5 → Fit (reject_answer d room at spoken.identifier)
    unfolding reject_answer
    reject_fits at k =
        plain_fits (not (ltb at (posts_of d))) 2 _
        (plain_fits (not (identifier_ok spoken.identifier)) 16 _ (decide_fits at spoken.identifier answer.Rejected (λ h w. rejected_fits h k)))

    cancel_fits : Fit (cancel_answer d room spoken.identifier)
    unfolding cancel_answer
    cancel_fits =
        unless_fits (not (identifier_ok spoken.identifier)) 16 _
        (λ w. unless_fits (ltb room 300) 14 _
        (λ e. plain_fits (not (waits d spoken.identifier)) 19 (answer.Cancelled (post_at d spoken.identifier))
        (one_fits d.profile room (room_is room e) _ (cancel_sends d.profile sound spoken.identifier (ltb-true _ _ (not_false _ w))))))

-- a message that was read, by its type
module _ (d : Desk) (rows : List Record) (n : ℕ) (room post : ℕ) (ok : desk_ok d ≡ true) where
  sent_fits : (v : Value) → valid_of d.profile.air v ≡ true → Fit d (take n rows) post (asked_in v) (said_in v) room (sent_answer d rows n room post v)
  sent_fits v good =
      by_type d rows n room post v Fitting
      (λ given z. marking_fits d (take n rows) post (asked_in v) (said_in v) room ok rows n given (asked_ack v) (marking_users d.profile.air v good z))
      (λ z. interrogate_fits d (take n rows) post (asked_in v) (said_in v) room ok rows n post v (asked_user d.profile.air v good z))
      (decide_fits d (take n rows) post (asked_in v) (said_in v) room post (identifier_in v) _ (accept_fits d (take n rows) post (asked_in v) (said_in v) room ok))
      (decide_fits d (take n rows) post (asked_in v) (said_in v) room post (identifier_in v) answer.Diverted (λ h w. diverted_fits d (take n rows) post (asked_in v) (said_in v) room ok h))
      (λ z. decide_fits d (take n rows) post (asked_in v) (said_in v) room post (identifier_in v) answer.Rejected
      (λ h w. rejected_fits d (take n rows) post (asked_in v) (said_in v) room ok h (reject_cause d.profile.air v good z)))
      (nothing_fits d.profile room)
    where
      Fitting : Answer → Type 0
      Fitting a = Fit d (take n rows) post (asked_in v) (said_in v) room a

  message_fits : (l : List ℕ) (bits : ℕ)
      → Fit d (take n rows) post (asked_in (value_by (read_of d.profile l bits))) (said_in (value_by (read_of d.profile l bits))) room (message_answer d rows n l room post bits)
  unfolding message_answer reading_of
  message_fits l bits = plain_fits d (take n rows) post (asked_in (value_by (read_of d.profile l bits))) (said_in (value_by (read_of d.profile l bits))) room (not (ltb post (posts_of d))) 2 _ (go (read_of d.profile l bits) refl)
    where
      go : (r : Read Value) → read_of d.profile l bits ≡ r → Fit d (take n rows) post (asked_in (value_by r)) (said_in (value_by r)) room (read_answer r (λ v. sent_answer d rows n room post v))
      go (got v q) e = sent_fits v (read_valid d.profile l bits (reading_of (got v q)) v (ap reading_of (sym e)) refl)
      go (no s) e = nothing_fits d.profile room

module _ (d : Desk) (rows : List Record) (n : ℕ) (l : List ℕ) (room : ℕ) where
  event_fits : desk_ok d ≡ true → (e : Event) → Fit d (take n rows) (post_of e) (asked_of d.profile l e) (spoken_of d.profile (take n rows) l e) room (event_answer d rows n l room e)
  event_fits ok (event.Message post bits) = message_fits d rows n room post ok l bits
  event_fits ok (event.SetUp caller called identifier cause) =
      setup_fits d (take n rows) 0 _ (spoken_of d.profile (take n rows) l (event.SetUp caller called identifier cause)) room ok rows n caller called
  event_fits ok (event.Reject post identifier) = reject_fits d (take n rows) post _ (named identifier) room ok post (omega arith)
  event_fits ok (event.Cancel identifier) = cancel_fits d (take n rows) 0 _ (named identifier) room ok

  -- what any call sends; where it sends anything, the profile passes
  pub sent_fit : (e : Event) → Fits d.profile room (sent_by d rows n l room e) × (0 < length (sent_by d rows n l room e) → profile_ok d.profile ≡ true)
  unfolding sent_by answer_of desk_ok
  sent_fit e = go (desk_ok d) refl
    where
      vs : Answer → List Value
      vs a = messages_for d (take n rows) (post_of e) (asked_of d.profile l e) (spoken_of d.profile (take n rows) l e) a

      go : (b : Bool) → desk_ok d ≡ b
          → Fits d.profile room (vs (unless (not b) 1 (event_answer d rows n l room e))) × (0 < length (vs (unless (not b) 1 (event_answer d rows n l room e))) → profile_ok d.profile ≡ true)
      go true z = (event_fits z e, λ h. both_left _ _ z)
      go false z = (nothing_fits d.profile room, λ h. absurd (omega arith))

-- ---- of any call

module _ (d : Desk) (rows : List Record) (n : ℕ) (l area : List ℕ) (e : Event) where
  abbrev sent : List Value
  sent = sent_by d rows n l (length area) e

  few_sent : length sent ≤ 3
  few_sent = (sent_fit d rows n l (length area) e).0.few

  -- the answer tells how many messages there are
  pub sent_count : (step_of d rows n l area e).laid.count ≡ length (sent_by d rows n l (length area) e)
  sent_count = ap (λ (x : Laid). x.count) (step_lays d rows n l area e) ∙ laid_count d.profile.air sent few_sent

  -- the area keeps its length
  pub area_length : length (area_after d rows n l area e) ≡ length area
  area_length = ap (λ (m : List ℕ). length m) (step_fills d rows n l area e) ∙ all_length d.profile.air sent area

  -- bytes that no message fills are as they stood
  pub unfilled_stays : (i : ℕ) → Unfilled (step_of d rows n l area e).laid i → get_or (area_after d rows n l area e) i 0 ≡ get_or area i 0
  unfilled_stays i out =
      ap (λ (m : List ℕ). get_or m i 0) (step_fills d rows n l area e)
      ∙ unfilled_stay d.profile.air sent few_sent area i (subst (λ (x : Laid). Unfilled x i) (step_lays d rows n l area e) out)

  -- each message that the call says it laid is read from its place, with the length that it tells, as the value that was sent
  pub sent_read : ReadBack d.profile (step_of d rows n l area e).laid (area_after d rows n l area e) 0 (sent_by d rows n l (length area) e)
  sent_read =
      subst (λ (x : Laid). ReadBack d.profile x (area_after d rows n l area e) 0 sent) (sym (step_lays d rows n l area e))
      (subst (λ (m : List ℕ). ReadBack d.profile (laid_of d.profile.air sent) m 0 sent) (sym (step_fills d rows n l area e)) (go sent (sent_fit d rows n l (length area) e)))
    where
      go : (vs : List Value) → Fits d.profile (length area) vs × (0 < length vs → profile_ok d.profile ≡ true)
          → ReadBack d.profile (laid_of d.profile.air vs) (lay_all d.profile.air area vs) 0 vs
      go [] f = tt
      go (v ∷ vs) f = all_read d.profile (f.1 (omega arith)) (v ∷ vs) f.0.few area (f.0.room_for_lem (omega arith)) f.0.sends
