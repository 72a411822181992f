-- A call that is answered as moved waited at the post that accepted it, had that second post, and the places rule said yes for it, the
-- call's own place taken as free. Assumes nothing.
use Prim.Native.Nat.{ℕ}
use mathlib.Core.Path.{◌≡◌, refl, sym, ap, ◌∙◌}
use mathlib.Core.Bool.{Bool, true, false, not, cond}
use mathlib.Core.List.{List}
use lib.Dec.{ltb}
use lib.ListN.{length}
use Rattle.codec.specs.Codec.{Read, got, no}
use Rattle.codec.proofs.Good.{not_both}
use Rattle.message.specs.Values.{identifier_in}
use Rattle.message.specs.Reading.{read_of}
use Rattle.message.specs.declared.Value.{Value}
use Rattle.places.specs.Held.{place_in, admits_of}
use Rattle.places.specs.Spots.{place_of, clear_of}
use Rattle.records.specs.Records.{records_ok}
use Rattle.records.specs.declared.Record.{Record}
use Rattle.desk.specs.Desks.{desk_ok}
use Rattle.desk.specs.Grounds.{waits, waits_here}
use Rattle.desk.specs.Orders.{unless, posts_of, places_of, marking_answer, has_one, interrogate_answer, end_answer, move_answer, accept_answer, decide_answer, sent_answer, read_answer, message_answer, answer_of}
use Rattle.desk.specs.Steps.{value_by, post_of, identifier_of, step_of}
use Rattle.desk.specs.declared.Answer.{Answer}
use Rattle.desk.specs.declared.Answer.TheVariants as answer
use Rattle.desk.specs.declared.Desk.{Desk}
use Rattle.desk.specs.declared.Event.{Event}
use Rattle.desk.specs.declared.Event.TheVariants as event
use Rattle.desk.proofs.AnswerLaws.{step_answer, by_type, answer_ok}

abbrev pub is_moved : Answer → Bool
is_moved (answer.Refused s) = false
is_moved answer.Acks = false
is_moved (answer.State k) = false
is_moved answer.Free = false
is_moved (answer.Admitted post place) = false
is_moved answer.Proceed = false
is_moved answer.Diverted = false
is_moved answer.Rejected = false
is_moved (answer.Cancelled post) = false
is_moved (answer.Moved post) = true

-- the post of a move
abbrev moved_to : Answer → ℕ
moved_to (answer.Refused s) = 0
moved_to answer.Acks = 0
moved_to (answer.State k) = 0
moved_to answer.Free = 0
moved_to (answer.Admitted post place) = 0
moved_to answer.Proceed = 0
moved_to answer.Diverted = 0
moved_to answer.Rejected = 0
moved_to (answer.Cancelled post) = 0
moved_to (answer.Moved post) = post

abbrev never : Answer → Bool
never a = not (is_moved a)

-- the call waits at the post that accepted it, its second post is this one, and the places rule says yes for that
pub record MovedCall (d : Desk) (identifier from to : ℕ) : Type 0 where
  pub waiting : waits d identifier ≡ true
  pub here : waits_here d from identifier ≡ true
  pub two : (place_in (places_of d) (place_of (places_of d) identifier).place).more ≡ true
  pub second : (place_in (places_of d) (place_of (places_of d) identifier).place).second ≡ to
  pub admits : admits_of d.profile.shares (clear_of (places_of d) (place_of (places_of d) identifier).place) to ≡ true

pub not_false : (b : Bool) → not b ≡ false → b ≡ true
not_false true e = refl
not_false false e = not_both (sym e)

module _ (to : ℕ) where
  -- no refusal is a move
  past : (b : Bool) (c : ℕ) (a : Answer) → unless b c a ≡ answer.Moved to → (b ≡ false) × (a ≡ answer.Moved to)
  past true c a z = not_both (ap is_moved z)
  past false c a z = (refl, z)

  module _ (d : Desk) where
    accept_moved : (identifier : ℕ) → accept_answer d (place_of (places_of d) identifier).place ≡ answer.Moved to
        → ((place_in (places_of d) (place_of (places_of d) identifier).place).more ≡ true)
        × (((place_in (places_of d) (place_of (places_of d) identifier).place).second ≡ to)
        × (admits_of d.profile.shares (clear_of (places_of d) (place_of (places_of d) identifier).place) to ≡ true))
    unfolding accept_answer move_answer
    accept_moved identifier = go (place_in (places_of d) place).more refl
      where
        place : ℕ
        place = (place_of (places_of d) identifier).place

        second : ℕ
        second = (place_in (places_of d) place).second

        go : (b : Bool) → (place_in (places_of d) place).more ≡ b → cond b (move_answer d place second) answer.Proceed ≡ answer.Moved to
            → ((place_in (places_of d) place).more ≡ true) × ((second ≡ to) × (admits_of d.profile.shares (clear_of (places_of d) place) to ≡ true))
        go true e z =
            let k = past (not (admits_of d.profile.shares (clear_of (places_of d) place) second)) 18 (answer.Moved second) z in
            let s : second ≡ to = ap moved_to k.1 in
            (e, (s, ap (λ (q : ℕ). admits_of d.profile.shares (clear_of (places_of d) place) q) (sym s) ∙ not_false _ k.0))
        go false e z = not_both (ap is_moved z)

    decide_moved : (room post identifier : ℕ) → decide_answer d room post identifier (accept_answer d (place_of (places_of d) identifier).place) ≡ answer.Moved to
        → MovedCall d identifier post to
    unfolding decide_answer end_answer
    decide_moved room post identifier z =
        let a = (past (ltb room 300) 14 _ z).1 in
        let b = past (not (waits d identifier)) 19 _ a in
        let c = past (not (waits_here d post identifier)) 20 _ b.1 in
        let k = accept_moved identifier c.1 in
        record { waiting = not_false _ b.0; here = not_false _ c.0; two = k.0; second = k.1.0; admits = k.1.1 }

    -- any answer but to an ACCEPT
    decide_never : (room post identifier : ℕ) (a : Answer) → is_moved a ≡ false → is_moved (decide_answer d room post identifier a) ≡ false
    unfolding decide_answer end_answer
    decide_never room post identifier a e =
        unless_never (ltb room 300) 14 _ (unless_never (not (waits d identifier)) 19 _ (unless_never (not (waits_here d post identifier)) 20 a e))
      where
        unless_never : (b : Bool) (c : ℕ) (x : Answer) → is_moved x ≡ false → is_moved (unless b c x) ≡ false
        unless_never true c x h = refl
        unless_never false c x h = h

    module _ (rows : List Record) (n room post : ℕ) where
      sent_moved : (v : Value) → sent_answer d rows n room post v ≡ answer.Moved to → MovedCall d (identifier_in v) post to
      unfolding marking_answer interrogate_answer
      sent_moved v =
          by_type d rows n room post v (λ a. a ≡ answer.Moved to → MovedCall d (identifier_in v) post to)
          (λ given _ z. not_both (ap is_moved (past given 21 _ (past (not (records_ok rows n (posts_of d))) 15 _ (past (ltb room 300) 14 _ z).1).1).1))
          (λ _ z. not_both (ap is_moved (past (not (has_one d.profile.air)) 26 _ (past (not (records_ok rows n (posts_of d))) 15 _ (past (ltb room 300) 14 _ z).1).1).1))
          (decide_moved room post (identifier_in v))
          (λ z. not_both (sym (decide_never room post (identifier_in v) answer.Diverted refl) ∙ ap is_moved z))
          (λ _ z. not_both (sym (decide_never room post (identifier_in v) answer.Rejected refl) ∙ ap is_moved z))
          (λ z. not_both (ap is_moved z))

      message_moved : (r : Read Value) → read_answer r (λ v. sent_answer d rows n room post v) ≡ answer.Moved to → MovedCall d (identifier_in (value_by r)) post to
      message_moved (got v p) z = sent_moved v z
      message_moved (no s) z = not_both (ap is_moved z)

    module _ (rows : List Record) (n : ℕ) (l : List ℕ) (room : ℕ) where
      event_moved : (e : Event) → answer_of d rows n l room e ≡ answer.Moved to → MovedCall d (identifier_of d.profile l e) (post_of e) to
      unfolding answer_of message_answer
      event_moved (event.Message post bits) z =
          message_moved rows n room post (read_of d.profile l bits) (past (not (ltb post (posts_of d))) 2 _ (past (not (desk_ok d)) 1 _ z).1).1
      event_moved (event.SetUp caller called identifier cause) z =
          not_both (ap never (sym z) ∙ answer_ok never (λ s p. refl) d rows n l room refl (event.SetUp caller called identifier cause) (refl, λ post place. refl))
      event_moved (event.Reject post identifier) z = not_both (ap never (sym z) ∙ answer_ok never (λ s p. refl) d rows n l room refl (event.Reject post identifier) refl)
      event_moved (event.Cancel identifier) z = not_both (ap never (sym z) ∙ answer_ok never (λ s p. refl) d rows n l room refl (event.Cancel identifier) (λ k. refl))

pub moved_so : (d : Desk) (rows : List Record) (n : ℕ) (l area : List ℕ) (to : ℕ) (e : Event) → (step_of d rows n l area e).answer ≡ answer.Moved to
    → MovedCall d (identifier_of d.profile l e) (post_of e) to
moved_so d rows n l area to e z = event_moved to d rows n l (length area) e (sym (step_answer d rows n l area e) ∙ z)
