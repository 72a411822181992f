-- Which answers each call can give, and that the step's answer is the one that the call's order gives. Assumes nothing.
use Prim.Native.Nat.{ℕ}
use mathlib.Core.Path.{◌≡◌, refl, sym, ap, ◌∙◌}
use mathlib.Core.Bool.{Bool, true, false, not, cond, ◌&&◌, ◌||◌}
use mathlib.Core.List.{List, [], ◌∷◌}
use mathlib.Core.Logic.{◌⊎◌, inl, inr}
use native.Mathlib.Omega.{arith}
use lib.Dec.{eqb, leb, ltb}
use lib.ListN.{length, take}
use borrow.Author.Tests.{eqb-true, le-leb, lt-leb, leb-true}
use Rattle.codec.specs.Codec.{Read, got, no, both}
use Rattle.codec.specs.Stops.{refusal, published}
use Rattle.codec.specs.declared.Stop.{Stop}
use Rattle.codec.proofs.Good.{both_true, both_left, both_right, not_both}
use Rattle.profile.specs.Rules.{profile_ok}
use Rattle.message.specs.Values.{identifier_in}
use Rattle.message.specs.Reading.{read_of, is_reading}
use Rattle.message.specs.declared.Value.{Value}
use Rattle.message.proofs.StopLaws.{read_known}
use Rattle.places.specs.Held.{place_in, admits_of}
use Rattle.places.specs.Spots.{place_of, clear_of}
use Rattle.records.specs.Records.{records_ok, restricted_of}
use Rattle.records.specs.declared.Identity.{Identity}
use Rattle.records.specs.declared.Party.{Party}
use Rattle.records.specs.declared.Record.{Record}
use Rattle.desk.specs.Desks.{desk_ok}
use Rattle.desk.specs.Grounds.{waits, waits_here}
use Rattle.desk.specs.Orders.{unless, posts_of, places_of, names_dispatchers, marking_answer, has_one, interrogate_answer, end_answer, move_answer, accept_answer, decide_answer, sent_answer, read_answer, message_answer, identifier_ok, set_up_ok, admit_answer, party_answer, set_up_answer, reject_answer, post_at, cancel_answer, event_answer, answer_of}
use Rattle.desk.specs.Steps.{Spoken, asked_of, spoken_of, plain_step, acks_step, is_acks, step_by, post_of, step_of}
use Rattle.desk.specs.declared.Answer.{Answer}
use Rattle.desk.specs.declared.Answer.TheVariants as answer
use Rattle.desk.specs.declared.Desk.{Desk}
use Rattle.desk.specs.declared.Event.{Event}
use Rattle.desk.specs.declared.Event.TheVariants as event
use Rattle.desk.specs.declared.marking.Asked.{Asked}

by_answer : (d : Desk) (rows : List Record) (post : ℕ) (asked : Asked) (spoken : Spoken) (a : Answer) → (step_by d rows post asked spoken a).answer ≡ a
unfolding step_by plain_step acks_step
by_answer d rows post asked spoken (answer.Refused s) = refl
by_answer d rows post asked spoken answer.Acks = refl
by_answer d rows post asked spoken (answer.State k) = refl
by_answer d rows post asked spoken answer.Free = refl
by_answer d rows post asked spoken (answer.Admitted p i) = refl
by_answer d rows post asked spoken answer.Proceed = refl
by_answer d rows post asked spoken answer.Diverted = refl
by_answer d rows post asked spoken answer.Rejected = refl
by_answer d rows post asked spoken (answer.Cancelled p) = refl
by_answer d rows post asked spoken (answer.Moved p) = refl

-- the answer of the step is the one that the order gives
pub step_answer : (d : Desk) (rows : List Record) (n : ℕ) (l area : List ℕ) (e : Event) → (step_of d rows n l area e).answer ≡ answer_of d rows n l (length area) e
unfolding step_of
step_answer d rows n l area e = by_answer d (take n rows) _ _ _ (answer_of d rows n l (length area) e)

-- and where that is ACKs the step is what a request does that is carried out
pub step_acks : (d : Desk) (rows : List Record) (n : ℕ) (l area : List ℕ) (e : Event) → is_acks (step_of d rows n l area e).answer ≡ true
    → step_of d rows n l area e ≡ acks_step d (take n rows) (post_of e) (asked_of d.profile l e)
unfolding step_of step_by
step_acks d rows n l area e h = by_acks (is_acks (answer_of d rows n l (length area) e)) (sym (ap is_acks (step_answer d rows n l area e)) ∙ h)
  where
    by_acks : (b : Bool) → b ≡ true
        → cond b (acks_step d (take n rows) (post_of e) (asked_of d.profile l e)) (plain_step d (spoken_of d.profile (take n rows) l e) (answer_of d rows n l (length area) e))
        ≡ acks_step d (take n rows) (post_of e) (asked_of d.profile l e)
    by_acks true z = refl
    by_acks false z = not_both z

-- ---- a message that was read, by its type

-- it is a request to change marks
abbrev pub Marking : Value → Type 0
Marking v = (v.pdu ≡ 2) ⊎ (v.pdu ≡ 4)

module _ (d : Desk) (rows : List Record) (n room post : ℕ) (v : Value) (P : Answer → Type 0) where
  -- what holds of each type's answer holds of the answer
  pub by_type : ((given : Bool) → Marking v → P (marking_answer d rows n room given))
      → (v.pdu ≡ 8 → P (interrogate_answer d rows n room post v))
      → P (decide_answer d room post (identifier_in v) (accept_answer d (place_of (places_of d) (identifier_in v)).place))
      → P (decide_answer d room post (identifier_in v) answer.Diverted)
      → (v.pdu ≡ 17 → P (decide_answer d room post (identifier_in v) answer.Rejected))
      → P (answer.Refused (refusal 8))
      → P (sent_answer d rows n room post v)
  unfolding sent_answer
  by_type marking interrogate accept divert reject other =
      arm 2 (λ e. marking (names_dispatchers d.profile.air v) (inl e)) (arm 4 (λ e. marking false (inr e)) (arm 8 interrogate (arm 12 (λ _. accept) (arm 15 (λ _. divert) (arm 17 reject other)))))
    where
      arm : (t : ℕ) {x y : Answer} → (v.pdu ≡ t → P x) → P y → P (cond (eqb v.pdu t) x y)
      arm t {x} {y} p q = go (eqb v.pdu t) refl
        where
          go : (b : Bool) → eqb v.pdu t ≡ b → P (cond b x y)
          go true e = p (eqb-true _ _ e)
          go false e = q

-- ---- a test that passes every refusal in the table passes a call's answer if it passes what the call can be answered otherwise

-- the table's numbers past 1, which comes before every call's own order
unfoldable pub past_one : ℕ → Bool
past_one c = both (leb 2 c) (leb c 22) || both (leb 26 c) (leb c 27)

pub past_published : (c : ℕ) → past_one c ≡ true → published c ≡ true
unfolding past_one published
past_published c e = go (both (leb 2 c) (leb c 22)) refl e
  where
    go : (b : Bool) → both (leb 2 c) (leb c 22) ≡ b → b || both (leb 26 c) (leb c 27) ≡ true → (leb 1 c && leb c 24) || (leb 26 c && leb c 27) ≡ true
    go true t _ =
        let low = leb-true 2 c (both_left _ _ t) in
        let high = leb-true c 22 (both_right (leb 2 c) _ t) in
        rw (le-leb 1 c (omega arith), le-leb c 24 (omega arith))
    go false _ z =
        let low = leb-true 26 c (both_left _ _ z) in
        let high = leb-true c 27 (both_right (leb 26 c) _ z) in
        rw (le-leb 1 c (omega arith), lt-leb c 24 (omega arith), le-leb 26 c low, le-leb c 27 high)

twenty_seven : both (leb 2 27) (leb 27 22) || both (leb 26 27) (leb 27 27) ≡ true
unfolding both
twenty_seven = refl

reading_past : (c : ℕ) → is_reading c ≡ true → past_one c ≡ true
unfolding is_reading past_one
reading_past c e = go (both (both (leb 3 c) (leb c 13)) (not (eqb c 8))) refl e
  where
    go : (b : Bool) → both (both (leb 3 c) (leb c 13)) (not (eqb c 8)) ≡ b → b || eqb c 27 ≡ true → both (leb 2 c) (leb c 22) || both (leb 26 c) (leb c 27) ≡ true
    go true t _ =
        let b = both_left (both (leb 3 c) (leb c 13)) _ t in
        let low = leb-true 3 c (both_left _ _ b) in
        let high = leb-true c 13 (both_right (leb 3 c) _ b) in
        rw (both_true _ _ (le-leb 2 c (omega arith)) (le-leb c 22 (omega arith)))
    go false _ z = rw (eqb-true c 27 z) twenty_seven

module _ (ok : Answer → Bool) (refused : (s : Stop) → past_one s.number ≡ true → ok (answer.Refused s) ≡ true) where
  unless_ok : (b : Bool) (c : ℕ) (a : Answer) → past_one c ≡ true → ok a ≡ true → ok (unless b c a) ≡ true
  unfolding refusal
  unless_ok true c a p e = refused (refusal c) p
  unless_ok false c a p e = e

  module _ (d : Desk) where
    end_ok : (post identifier : ℕ) (a : Answer) → ok a ≡ true → ok (end_answer d post identifier a) ≡ true
    unfolding end_answer past_one both
    end_ok post identifier a e = unless_ok (not (waits d identifier)) 19 _ refl (unless_ok (not (waits_here d post identifier)) 20 a refl e)

    decide_ok : (room post identifier : ℕ) (a : Answer) → ok a ≡ true → ok (decide_answer d room post identifier a) ≡ true
    unfolding decide_answer past_one both
    decide_ok room post identifier a e = unless_ok (ltb room 300) 14 _ refl (end_ok post identifier a e)

    reject_ok : (room post identifier : ℕ) → ok answer.Rejected ≡ true → ok (reject_answer d room post identifier) ≡ true
    unfolding reject_answer past_one both
    reject_ok room post identifier e =
        unless_ok (not (ltb post (posts_of d))) 2 _ refl (unless_ok (not (identifier_ok identifier)) 16 _ refl (decide_ok room post identifier answer.Rejected e))

    cancel_ok : (room identifier : ℕ) → ((post : ℕ) → ok (answer.Cancelled post) ≡ true) → ok (cancel_answer d room identifier) ≡ true
    unfolding cancel_answer past_one both
    cancel_ok room identifier e =
        unless_ok (not (identifier_ok identifier)) 16 _ refl (unless_ok (ltb room 300) 14 _ refl (unless_ok (not (waits d identifier)) 19 _ refl (e (post_at d identifier))))

    party_ok_lem : (p : Party) → ok answer.Free ≡ true → ((post place : ℕ) → ok (answer.Admitted post place) ≡ true) → ok (party_answer d p) ≡ true
    unfolding admit_answer past_one both
    party_ok_lem p free admitted = go p.found
      where
        go : (b : Bool) → ok (cond b (admit_answer d p.post) answer.Free) ≡ true
        go true = unless_ok (not (admits_of d.profile.shares (places_of d) p.post)) 18 _ refl (admitted _ _)
        go false = free

    pub setup_ok : (rows : List Record) (n room : ℕ) (caller called : Identity) (identifier cause : ℕ) → ok answer.Free ≡ true
        → ((post place : ℕ) → ok (answer.Admitted post place) ≡ true) → ok (set_up_answer d rows n room caller called identifier cause) ≡ true
    unfolding set_up_answer past_one both
    setup_ok rows n room caller called identifier cause free admitted =
        unless_ok (not (set_up_ok caller called identifier cause)) 16 _ refl
        (unless_ok (ltb room 300) 14 _ refl
        (unless_ok (not (records_ok rows n (posts_of d))) 15 _ refl
        (unless_ok (waits d identifier) 17 _ refl (party_ok_lem (restricted_of (take n rows) (caller ∷ called ∷ [])) free admitted))))

    accept_ok : (place : ℕ) → ok answer.Proceed ≡ true → ((post : ℕ) → ok (answer.Moved post) ≡ true) → ok (accept_answer d place) ≡ true
    unfolding accept_answer move_answer past_one both
    accept_ok place proceed moved = go (place_in (places_of d) place).more
      where
        go : (b : Bool) → ok (cond b (move_answer d place (place_in (places_of d) place).second) answer.Proceed) ≡ true
        go true = unless_ok (not (admits_of d.profile.shares (clear_of (places_of d) place) (place_in (places_of d) place).second)) 18 _ refl (moved _)
        go false = proceed

    module _ (rows : List Record) (n : ℕ) (acks : ok answer.Acks ≡ true) (state : (k : ℕ) → ok (answer.State k) ≡ true) (proceed : ok answer.Proceed ≡ true)
        (diverted : ok answer.Diverted ≡ true) (rejected : ok answer.Rejected ≡ true) (moved : (post : ℕ) → ok (answer.Moved post) ≡ true) (passes : profile_ok d.profile ≡ true) where
      sent_ok : (room post : ℕ) (v : Value) → ok (sent_answer d rows n room post v) ≡ true
      unfolding marking_answer interrogate_answer past_one both refusal
      sent_ok room post v =
          by_type d rows n room post v (λ a. ok a ≡ true)
          (λ given _.
          unless_ok (ltb room 300) 14 _ refl
          (unless_ok (not (records_ok rows n (posts_of d))) 15 _ refl (unless_ok given 21 answer.Acks refl acks)))
          (λ _. unless_ok (ltb room 300) 14 _ refl (unless_ok (not (records_ok rows n (posts_of d))) 15 _ refl (unless_ok (not (has_one d.profile.air)) 26 _ refl (state _))))
          (decide_ok room post (identifier_in v) _ (accept_ok _ proceed moved))
          (decide_ok room post (identifier_in v) answer.Diverted diverted)
          (λ _. decide_ok room post (identifier_in v) answer.Rejected rejected)
          (refused (refusal 8) refl)

      message_ok : (l : List ℕ) (room post bits : ℕ) → ok (message_answer d rows n l room post bits) ≡ true
      unfolding message_answer past_one both
      message_ok l room post bits = unless_ok (not (ltb post (posts_of d))) 2 _ refl (go (read_of d.profile l bits) refl)
        where
          go : (r : Read Value) → read_of d.profile l bits ≡ r → ok (read_answer r (λ v. sent_answer d rows n room post v)) ≡ true
          go (got v p) e = sent_ok room post v
          go (no s) e = refused s (reading_past s.number (read_known d.profile l bits s passes e))

-- what an event can be answered but a refusal passes the test
abbrev pub Can : (Answer → Bool) → Event → Type 0
Can ok (event.Message post bits) = (ok answer.Acks ≡ true) × (((k : ℕ) → ok (answer.State k) ≡ true) × ((ok answer.Proceed ≡ true) × ((ok answer.Diverted ≡ true) × ((ok answer.Rejected ≡ true) × ((post : ℕ) → ok (answer.Moved post) ≡ true)))))
Can ok (event.SetUp caller called identifier cause) = (ok answer.Free ≡ true) × ((post place : ℕ) → ok (answer.Admitted post place) ≡ true)
Can ok (event.Reject post identifier) = ok answer.Rejected ≡ true
Can ok (event.Cancel identifier) = (post : ℕ) → ok (answer.Cancelled post) ≡ true

-- every call, once 1 does not come, and every call
module _ (ok : Answer → Bool) (refused : (s : Stop) → past_one s.number ≡ true → ok (answer.Refused s) ≡ true) (d : Desk) (rows : List Record) (n : ℕ) (l : List ℕ) (room : ℕ) where
  pub event_ok : (e : Event) → profile_ok d.profile ≡ true → Can ok e → ok (event_answer d rows n l room e) ≡ true
  event_ok (event.Message post bits) p h = message_ok ok refused d rows n h.0 h.1.0 h.1.1.0 h.1.1.1.0 h.1.1.1.1.0 h.1.1.1.1.1 p l room post bits
  event_ok (event.SetUp caller called identifier cause) p h = setup_ok ok refused d rows n room caller called identifier cause h.0 h.1
  event_ok (event.Reject post identifier) p h = reject_ok ok refused d room post identifier h
  event_ok (event.Cancel identifier) p h = cancel_ok ok refused d room identifier h

  pub answer_ok : ok (answer.Refused (refusal 1)) ≡ true → (e : Event) → Can ok e → ok (answer_of d rows n l room e) ≡ true
  unfolding answer_of desk_ok
  answer_ok one e h = go (desk_ok d) refl
    where
      go : (b : Bool) → desk_ok d ≡ b → ok (unless (not b) 1 (event_answer d rows n l room e)) ≡ true
      go true z = event_ok e (both_left _ _ z) h
      go false z = one
