-- Each refusal of the desk comes exactly when its ground holds and no earlier one of that call's order does. Assumes nothing.
use Prim.Native.Nat.{ℕ, ◌<◌}
use mathlib.Core.Path.{◌≡◌, refl, sym, ap, ◌∙◌, subst}
use mathlib.Core.Bool.{Bool, true, false, not, cond, ◌||◌}
use mathlib.Core.List.{List, [], ◌∷◌, ◌++◌}
use native.Mathlib.Omega.{arith}
use lib.Dec.{eqb, ltb}
use borrow.Author.Tests.{eqb-true}
use lib.ListN.{take}
use Rattle.codec.specs.Codec.{Ground, first_of, Read, got, no, afterwards}
use Rattle.codec.specs.Stops.{refusal, no_stop}
use Rattle.codec.specs.declared.Stop.{Stop}
use Rattle.codec.proofs.Good.{both_left, both_right, not_both, Told}
use Rattle.codec.proofs.GroundLaws.{none_join, some_join}
use Rattle.message.specs.Values.{identifier_in}
use Rattle.message.specs.Messages.{is_carried, header_c, message_c}
use Rattle.message.specs.Rows.{table, row_in, row_of}
use Rattle.message.specs.Reading.{read_of, reading_order}
use Rattle.message.specs.declared.Row.{Row}
use Rattle.message.specs.declared.Value.{Value}
use Rattle.message.proofs.OrderLaws.{reading_exact}
use Rattle.profile.specs.declared.Air.{Air}
use Rattle.profile.specs.declared.Profile.{Profile}
use Rattle.reading.specs.Answers.{reading_of}
use Rattle.places.specs.Held.{place_in, admits_of}
use Rattle.places.specs.Spots.{place_of, clear_of}
use Rattle.records.specs.Records.{records_ok, restricted_of}
use Rattle.records.specs.declared.Identity.{Identity}
use Rattle.records.specs.declared.Party.{Party}
use Rattle.records.specs.declared.Record.{Record}
use Rattle.writing.proofs.RoundTrips.{read_valid}
use Rattle.validity.specs.Validity.{valid_of}
use Rattle.desk.specs.Desks.{desk_ok}
use Rattle.desk.specs.Grounds.{not_sent, waits, waits_here, no_place_for, no_place_there, type_order, message_order, set_up_order, reject_order, cancel_order, order_of}
use Rattle.desk.specs.Numbers.{number_of, stop_of}
use Rattle.desk.specs.Orders.{unless, posts_of, places_of, names_dispatchers, marking_answer, has_one, interrogate_answer, end_answer, move_answer, accept_answer, decide_answer, sent_answer, read_answer, message_answer, identifier_ok, set_up_ok, admit_answer, party_answer, set_up_answer, reject_answer, post_at, cancel_answer, answer_of}
use Rattle.desk.specs.declared.Answer.{Answer}
use Rattle.desk.specs.declared.Answer.TheVariants as answer
use Rattle.desk.specs.declared.Desk.{Desk}
use Rattle.desk.specs.declared.Event.{Event}
use Rattle.desk.specs.declared.Event.TheVariants as event

-- ---- a call's refusal is that of the first ground of its order that holds: the number and, with a 4, the element and its position

-- one ground, and what comes after it
before : (b : Bool) (c : ℕ) (a : Answer) (rest : List Ground) → stop_of a ≡ first_of rest → stop_of (unless b c a) ≡ first_of ((refusal c, b) ∷ rest)
unfolding first_of
before true c a rest e = refl
before false c a rest e = e

-- the last ground
last : (b : Bool) (c : ℕ) (a : Answer) → stop_of a ≡ no_stop → stop_of (unless b c a) ≡ first_of ((refusal c, b) ∷ [])
unfolding first_of
last b c a e = before b c a [] e

-- a value that was read has one of the table's types
arm : (P : ℕ → Type 0) (t k : ℕ) (r s : Row) → P k → (s.carried ≡ true → P t) → (cond (eqb t k) r s).carried ≡ true → P t
arm P t k r s here after = go (eqb t k) refl
  where
    go : (b : Bool) → eqb t k ≡ b → (cond b r s).carried ≡ true → P t
    go true e h = subst P (sym (eqb-true t k e)) here
    go false e h = after h

-- what holds of each carried type holds of the type of a value that was read
abbrev EachOf : (ℕ → Type 0) → List (ℕ × Row) → Type 0
EachOf P [] = Unit
EachOf P (x ∷ rest) = P x.0 × EachOf P rest

each_of : (P : ℕ → Type 0) (rows : List (ℕ × Row)) (t : ℕ) → EachOf P rows → (row_in rows t).carried ≡ true → P t
unfolding row_in
each_of P [] t all h = not_both h
each_of P (x ∷ rest) t all h = arm P t x.0 x.1 (row_in rest t) all.0 (each_of P rest t all.1) h

carried_cases : (P : ℕ → Type 0) (t : ℕ) → EachOf P table → is_carried t ≡ true → P t
unfolding is_carried row_of
carried_cases P t all h = each_of P table t all h

valid_carried : (air : Air) (v : Value) → valid_of air v ≡ true → is_carried v.pdu ≡ true
unfolding valid_of message_c header_c
valid_carried air v z = both_right _ _ (both_left _ _ (both_right true _ z))

read_carried : (p : Profile) (l : List ℕ) (n : ℕ) (v : Value) (q : ℕ) → read_of p l n ≡ got v q → is_carried v.pdu ≡ true
unfolding reading_of
read_carried p l n v q e = valid_carried p.air v (read_valid p l n (reading_of (got v q)) v (ap reading_of (sym e)) refl)

module _ (d : Desk) (rows : List Record) (n : ℕ) where
  end_first : (post identifier : ℕ) (a : Answer) (rest : List Ground) → stop_of a ≡ first_of rest
      → stop_of (end_answer d post identifier a) ≡ first_of ((refusal 19, not (waits d identifier)) ∷ (refusal 20, not (waits_here d post identifier)) ∷ rest)
  unfolding end_answer
  end_first post identifier a rest e = before (not (waits d identifier)) 19 _ _ (before (not (waits_here d post identifier)) 20 a rest e)

  end_last : (post identifier : ℕ) (a : Answer) → stop_of a ≡ no_stop
      → stop_of (end_answer d post identifier a) ≡ first_of ((refusal 19, not (waits d identifier)) ∷ (refusal 20, not (waits_here d post identifier)) ∷ [])
  unfolding first_of
  end_last post identifier a e = end_first post identifier a [] e

  accept_first : (place : ℕ) → stop_of (accept_answer d place) ≡ first_of (no_place_there d place)
  unfolding accept_answer move_answer first_of
  accept_first place = go (place_in (places_of d) place).more
    where
      rule : Bool
      rule = admits_of d.profile.shares (clear_of (places_of d) place) (place_in (places_of d) place).second

      go : (b : Bool) → stop_of (cond b (move_answer d place (place_in (places_of d) place).second) answer.Proceed) ≡ first_of (cond b ((refusal 18, not rule) ∷ []) [])
      go true = last (not rule) 18 _ refl
      go false = refl

  admit_first : (p : Party) → stop_of (party_answer d p) ≡ first_of (no_place_for d p)
  unfolding admit_answer first_of
  admit_first p = go p.found
    where
      rule : Bool
      rule = admits_of d.profile.shares (places_of d) p.post

      go : (b : Bool) → stop_of (cond b (admit_answer d p.post) answer.Free) ≡ first_of (cond b ((refusal 18, not rule) ∷ []) [])
      go true = last (not rule) 18 _ refl
      go false = refl

  setup_first : (room : ℕ) (caller called : Identity) (identifier cause : ℕ)
      → stop_of (set_up_answer d rows n room caller called identifier cause) ≡ first_of (set_up_order d rows n room caller called identifier cause)
  unfolding set_up_answer set_up_order
  setup_first room caller called identifier cause =
      before (not (set_up_ok caller called identifier cause)) 16 _ _
      (before (ltb room 300) 14 _ _
      (before (not (records_ok rows n (posts_of d))) 15 _ _
      (before (waits d identifier) 17 _ _ (admit_first (restricted_of (take n rows) (caller ∷ called ∷ []))))))

  reject_first : (room post identifier : ℕ) → stop_of (reject_answer d room post identifier) ≡ first_of (reject_order d room post identifier)
  unfolding reject_answer decide_answer reject_order
  reject_first room post identifier =
      before (not (ltb post (posts_of d))) 2 _ _
      (before (not (identifier_ok identifier)) 16 _ _ (before (ltb room 300) 14 _ _ (end_last post identifier answer.Rejected refl)))

  cancel_first : (room identifier : ℕ) → stop_of (cancel_answer d room identifier) ≡ first_of (cancel_order d room identifier)
  unfolding cancel_answer cancel_order
  cancel_first room identifier =
      before (not (identifier_ok identifier)) 16 _ _ (before (ltb room 300) 14 _ _ (last (not (waits d identifier)) 19 (answer.Cancelled (post_at d identifier)) refl))

  -- ---- a post's message

  module _ (room post : ℕ) (v : Value) where
    marking_first : (given : Bool) → stop_of (marking_answer d rows n room given) ≡ first_of ((refusal 14, ltb room 300) ∷ (refusal 15, not (records_ok rows n (posts_of d))) ∷ (refusal 21, given) ∷ [])
    unfolding marking_answer
    marking_first given = before (ltb room 300) 14 _ _ (before (not (records_ok rows n (posts_of d))) 15 _ _ (last given 21 answer.Acks refl))

    unnamed_first : stop_of (marking_answer d rows n room false) ≡ first_of ((refusal 14, ltb room 300) ∷ (refusal 15, not (records_ok rows n (posts_of d))) ∷ [])
    unfolding marking_answer
    unnamed_first = before (ltb room 300) 14 _ _ (last (not (records_ok rows n (posts_of d))) 15 answer.Acks refl)

    interrogate_first : stop_of (interrogate_answer d rows n room post v)
        ≡ first_of ((refusal 14, ltb room 300) ∷ (refusal 15, not (records_ok rows n (posts_of d))) ∷ (refusal 26, not (has_one d.profile.air)) ∷ [])
    unfolding interrogate_answer
    interrogate_first = before (ltb room 300) 14 _ _ (before (not (records_ok rows n (posts_of d))) 15 _ _ (last (not (has_one d.profile.air)) 26 _ refl))

    decide_first : (a : Answer) (rest : List Ground) → stop_of a ≡ first_of rest
        → stop_of (decide_answer d room post (identifier_in v) a)
        ≡ first_of ((refusal 14, ltb room 300) ∷ (refusal 19, not (waits d (identifier_in v))) ∷ (refusal 20, not (waits_here d post (identifier_in v))) ∷ rest)
    unfolding decide_answer
    decide_first a rest e = before (ltb room 300) 14 _ _ (end_first post (identifier_in v) a rest e)

    -- where the call that it names waits
    abbrev place : ℕ
    place = (place_of (places_of d) (identifier_in v)).place

    -- the types that are carried are the six that posts send and the nine that they don't
    sent_first : is_carried v.pdu ≡ true → stop_of (sent_answer d rows n room post v) ≡ first_of (not_sent v ∷ type_order d rows n room post v)
    unfolding sent_answer first_of table
    sent_first h =
        carried_cases By v.pdu (
          marking_first (names_dispatchers d.profile.air v),
          (
            refl,
            (
              unnamed_first,
              (
                refl,
                (
                  interrogate_first,
                  (
                    refl,
                    (
                      refl,
                      (
                        refl,
                        (
                          decide_first (accept_answer d place) (no_place_there d place) (accept_first place),
                          (
                            refl,
                            (
                              refl,
                              (decide_first answer.Diverted [] refl, (refl, (decide_first answer.Rejected [] refl, (refl, tt)))),
                            ),
                          ),
                        ),
                      ),
                    ),
                  ),
                ),
              ),
            ),
          ),
        )
        h
      where
        By : ℕ → Type 0
        By t =
            stop_of (cond (eqb t 2) (marking_answer d rows n room (names_dispatchers d.profile.air v)) (cond (eqb t 4) (marking_answer d rows n room false) (cond (eqb t 8) (interrogate_answer d rows n room post v)
            (cond (eqb t 12) (decide_answer d room post (identifier_in v) (accept_answer d place)) (cond (eqb t 15) (decide_answer d room post (identifier_in v) answer.Diverted)
            (cond (eqb t 17) (decide_answer d room post (identifier_in v) answer.Rejected) (answer.Refused (refusal 8))))))))
            ≡ first_of ((refusal 8, eqb t 3 || (eqb t 5 || (eqb t 9 || (eqb t 10 || (eqb t 11 || (eqb t 13 || (eqb t 14 || (eqb t 16 || eqb t 18))))))))
            ∷ cond (eqb t 2) ((refusal 14, ltb room 300) ∷ (refusal 15, not (records_ok rows n (posts_of d))) ∷ (refusal 21, names_dispatchers d.profile.air v) ∷ [])
            (cond (eqb t 4) ((refusal 14, ltb room 300) ∷ (refusal 15, not (records_ok rows n (posts_of d))) ∷ [])
            (cond (eqb t 8) ((refusal 14, ltb room 300) ∷ (refusal 15, not (records_ok rows n (posts_of d))) ∷ (refusal 26, not (has_one d.profile.air)) ∷ [])
            (cond (eqb t 12) ((refusal 14, ltb room 300) ∷ (refusal 19, not (waits d (identifier_in v))) ∷ (refusal 20, not (waits_here d post (identifier_in v))) ∷ no_place_there d place)
            (cond (eqb t 15) ((refusal 14, ltb room 300) ∷ (refusal 19, not (waits d (identifier_in v))) ∷ (refusal 20, not (waits_here d post (identifier_in v))) ∷ [])
            (cond (eqb t 17) ((refusal 14, ltb room 300) ∷ (refusal 19, not (waits d (identifier_in v))) ∷ (refusal 20, not (waits_here d post (identifier_in v))) ∷ []) []))))))

  after_reading : (room post : ℕ) (g : List Ground) (r : Read Value) → Told g r → ((v : Value) (p : ℕ) → r ≡ got v p → is_carried v.pdu ≡ true)
      → stop_of (read_answer r (λ v. sent_answer d rows n room post v)) ≡ first_of (g ++ afterwards r (λ v p. not_sent v ∷ type_order d rows n room post v))
  after_reading room post g (got v p) t h = sent_first room post v (h v p refl) ∙ sym (none_join _ g t).1
  after_reading room post g (no s) t h = sym ((some_join [] g t.0).1 ∙ t.1)

  message_first : (l : List ℕ) (room post bits : ℕ) → stop_of (message_answer d rows n l room post bits) ≡ first_of (message_order d rows n l room post bits)
  unfolding message_answer message_order
  message_first l room post bits =
      before (not (ltb post (posts_of d))) 2 _ _
      (after_reading room post (reading_order d.profile l bits) (read_of d.profile l bits) (reading_exact d.profile l bits) (λ v p e. read_carried d.profile l bits v p e))

  pub stop_first : (l : List ℕ) (room : ℕ) (e : Event) → stop_of (answer_of d rows n l room e) ≡ first_of (order_of d rows n l room e)
  unfolding answer_of order_of
  stop_first l room (event.Message post bits) = before (not (desk_ok d)) 1 _ _ (message_first l room post bits)
  stop_first l room (event.SetUp caller called identifier cause) = before (not (desk_ok d)) 1 _ _ (setup_first room caller called identifier cause)
  stop_first l room (event.Reject post identifier) = before (not (desk_ok d)) 1 _ _ (reject_first room post identifier)
  stop_first l room (event.Cancel identifier) = before (not (desk_ok d)) 1 _ _ (cancel_first room identifier)

-- ---- so it comes exactly then

number_stop : (a : Answer) → number_of a ≡ (stop_of a).number
unfolding no_stop
number_stop (answer.Refused s) = refl
number_stop answer.Acks = refl
number_stop (answer.State k) = refl
number_stop answer.Free = refl
number_stop (answer.Admitted post place) = refl
number_stop answer.Proceed = refl
number_stop answer.Diverted = refl
number_stop answer.Rejected = refl
number_stop (answer.Cancelled post) = refl
number_stop (answer.Moved post) = refl

-- the number c comes by an order: its ground holds, and no earlier one does
pub data Comes (c : ℕ) : List Ground → Type 0 where
  here : (s : Stop) (rest : List Ground) → s.number ≡ c → Comes c ((s, true) ∷ rest)
  later : (s : Stop) (rest : List Ground) → Comes c rest → Comes c ((s, false) ∷ rest)

pub first_comes : (c : ℕ) (order : List Ground) → 0 < c → (first_of order).number ≡ c → Comes c order
unfolding first_of no_stop
first_comes c [] h e = absurd (omega (arith, e))
first_comes c ((s, true) ∷ rest) h e = here s rest e
first_comes c ((s, false) ∷ rest) h e = later s rest (first_comes c rest h e)

pub comes_first : (c : ℕ) (order : List Ground) → Comes c order → (first_of order).number ≡ c
unfolding first_of
comes_first c [] x = elim x [ ]
comes_first c ((_, true) ∷ rest) (here _ _ e) = e
comes_first c ((_, false) ∷ rest) (later _ _ w) = comes_first c rest w

module _ (d : Desk) (rows : List Record) (n : ℕ) (l : List ℕ) (room : ℕ) (e : Event) where
  number_first : number_of (answer_of d rows n l room e) ≡ (first_of (order_of d rows n l room e)).number
  number_first = number_stop (answer_of d rows n l room e) ∙ ap (λ (s : Stop). s.number) (stop_first d rows n l room e)

  pub number_comes : (c : ℕ) → 0 < c → number_of (answer_of d rows n l room e) ≡ c → Comes c (order_of d rows n l room e)
  number_comes c h z = first_comes c (order_of d rows n l room e) h (sym number_first ∙ z)

  pub comes_number : (c : ℕ) → Comes c (order_of d rows n l room e) → number_of (answer_of d rows n l room e) ≡ c
  comes_number c w = number_first ∙ comes_first c (order_of d rows n l room e) w
