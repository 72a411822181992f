-- After a move, until the identifier is admitted again: the call waits at the second post or not at all; every other post, the first one
-- among them, gets 20 for it, or 19 once it has ended, and it proceeds by the second post's ACCEPT alone. Assumes nothing.
use Prim.Native.Nat.{ℕ, ◌+◌, ◌<◌, ◌≤◌, ◌^◌}
use mathlib.Core.Path.{◌≡◌, refl, sym, ap, ◌∙◌, subst}
use mathlib.Core.Bool.{Bool, true, false, not, cond}
use mathlib.Core.List.{List, [], ◌∷◌, ◌++◌}
use native.Mathlib.Omega.{arith}
use lib.Dec.{eqb}
use lib.ListN.{length}
use borrow.Author.Tests.{eq-eqb, ne_eqb, eqb-true, lt-ltb}
use Rattle.codec.specs.Codec.{both}
use Rattle.codec.specs.Stops.{refusal}
use Rattle.codec.proofs.Good.{both_left, both_right, both_true, not_both}
use Rattle.profile.specs.Counting.{one}
use Rattle.profile.specs.Rules.{profile_ok}
use Rattle.profile.specs.declared.Profile.{Profile}
use Rattle.profile.specs.declared.Shares.{Shares}
use Rattle.places.specs.Held.{place_in}
use Rattle.places.specs.Spots.{place_of}
use Rattle.places.specs.declared.Place.{Place}
use Rattle.places.proofs.SpotLaws.{spot_found, place_of_exactly}
use Rattle.records.specs.Records.{no_party}
use Rattle.records.specs.declared.Party.{Party}
use Rattle.desk.specs.Changes.{change_of}
use Rattle.desk.specs.Desks.{desk_with}
use Rattle.desk.specs.Grounds.{waits, waits_here}
use Rattle.desk.specs.Orders.{posts_of, places_of, accept_answer, decide_answer, reject_answer, answer_of}
use Rattle.desk.specs.Steps.{post_of, identifier_of}
use Rattle.desk.specs.declared.Answer.{Answer}
use Rattle.desk.specs.declared.Answer.TheVariants as answer
use Rattle.desk.specs.declared.Desk.{Desk}
use Rattle.desk.specs.declared.Event.{Event}
use Rattle.desk.specs.declared.Event.TheVariants as event
use Rattle.desk.proofs.AnswerLaws.{step_answer}
use Rattle.desk.proofs.Moves.{moved_so}
use Rattle.history.specs.Histories.{Call, Turn, one_call, one_change, History, step_for, run_of, Waiting, without, cause_of, meant_by, answered, afterwards, after_note, waiting_after, waiting_of, count_by, is_waiting, IsSent, is_admission, admits_none}
use Rattle.history.proofs.WaitingLaws.{has_such, without_count, some_such}
use Rattle.history.proofs.RunLaws.{Along, along, meant_same, moved_other, meant_air, afterwards_air, Stands, stands_turn, stands, run_parts}
use Rattle.history.proofs.Sharing.{waiting, in_force, next, posts_next, waiting_is, stays_ok}
use Rattle.history.proofs.Moving.{count_none, read_by, sent_accept, sent_divert, decide_19, decide_20, decide_here}

-- a call with this identifier that waits elsewhere than at this post, or after which one more post is asked
abbrev strays : ℕ → ℕ → Waiting → Bool
strays identifier post x = both (eqb x.identifier identifier) (not (both (eqb x.post post) (not x.second.found)))

pub fewer : (identifier : ℕ) (test : Waiting → Bool) (w : List Waiting) → count_by test (without identifier w) ≤ count_by test w
unfolding count_by without
fewer identifier test [] = omega arith
fewer identifier test (x ∷ w) = go (eqb x.identifier identifier) (fewer identifier test w)
  where
    go : (b : Bool) → count_by test (without identifier w) ≤ count_by test w → count_by test (cond b (without identifier w) (x ∷ without identifier w)) ≤ one (test x) + count_by test w
    go true h = omega (arith, h)
    go false h = omega (arith, h)

-- another identifier's call is no stray
other_call : (identifier post : ℕ) (x : Waiting) → eqb x.identifier identifier ≡ false → one (strays identifier post x) ≡ 0
unfolding both
other_call identifier post x e = rw e refl

-- ---- one call

module _ (d : Desk) (w : List Waiting) (a : Along d w) (c : Call) (identifier post : ℕ) (none : count_by (strays identifier post) w ≡ 0) where
  abbrev meant : ℕ
  meant = identifier_of d.profile c.message c.event

  -- a call that moves has a second post, so it was a stray
  not_moved : (to : ℕ) → (step_for d c).answer ≡ answer.Moved to → eqb meant identifier ≡ true → ⊥
  unfolding has_such both
  not_moved to z e =
      let k = moved_so d c.rows c.count c.message c.area to c.event z in
      let place = (place_of (places_of d) meant).place in
      let f = place_of_exactly (places_of d) meant place (spot_found (place_of (places_of d) meant) k.waiting) in
      let same : eqb (place_in (places_of d) place).identifier identifier ≡ true = ap (λ (i : ℕ). eqb i identifier) f.same ∙ e in
      let there : has_such (strays identifier post) (place_in (places_of d) place) ≡ true =
      both_true _ _ f.used (both_true _ _ same (stray (eqb (place_in (places_of d) place).post post) (place_in (places_of d) place).more k.two)) in
      omega (arith, none, some_such (places_of d) w a.same (strays identifier post) place f.inside there)
    where
      stray : (b m : Bool) → m ≡ true → not (both b (not m)) ≡ true
      stray true true e = refl
      stray false true e = refl
      stray b false e = not_both e

  stays_answer : (second : Party) (cause : ℕ) (x : Answer) → (step_for d c).answer ≡ x → both (is_admission x) (eqb meant identifier) ≡ false
      → count_by (strays identifier post) (answered (record { identifier = meant; second = second; cause = cause }) x w) ≡ 0
  unfolding count_by both
  stays_answer second cause (answer.Refused s) z h = none
  stays_answer second cause answer.Acks z h = none
  stays_answer second cause (answer.State k) z h = none
  stays_answer second cause answer.Free z h = none
  stays_answer second cause (answer.Admitted q i) z h = omega (arith, none, other_call identifier post (record { identifier = meant; post = q; second = second; cause = cause }) h)
  stays_answer second cause answer.Proceed z h = omega (arith, none, fewer meant (strays identifier post) w)
  stays_answer second cause answer.Diverted z h = omega (arith, none, fewer meant (strays identifier post) w)
  stays_answer second cause answer.Rejected z h = omega (arith, none, fewer meant (strays identifier post) w)
  stays_answer second cause (answer.Cancelled p) z h = omega (arith, none, fewer meant (strays identifier post) w)
  stays_answer second cause (answer.Moved to) z h = go (eqb meant identifier) refl
    where
      go : (b : Bool) → eqb meant identifier ≡ b → count_by (strays identifier post) (record { identifier = meant; post = to; second = no_party; cause = cause_of w meant } ∷ without meant w) ≡ 0
      go true e = absurd (not_moved to z e)
      go false e = omega (arith, none, fewer meant (strays identifier post) w, other_call identifier post (record { identifier = meant; post = to; second = no_party; cause = cause_of w meant }) e)

  stays_step : both (is_admission (step_for d c).answer) (eqb (meant_by d.profile c.message c.event) identifier) ≡ false
      → count_by (strays identifier post) (afterwards d.profile w c (step_for d c).answer) ≡ 0
  unfolding afterwards
  stays_step h = rw (meant_same d w a c c.event) (stays_answer _ _ (step_for d c).answer refl (rw (meant_same d w a c c.event) at h))

not_true : (b : Bool) → not b ≡ true → b ≡ false
not_true true e = not_both e
not_true false e = refl

stays_run : (p : Profile) (turns : List Turn) (d : Desk) (s : Shares) (w : List Waiting) → Stands p d s w → (identifier post : ℕ) → count_by (strays identifier post) w ≡ 0
    → admits_none p identifier (run_of d turns) ≡ true → count_by (strays identifier post) (waiting_after p w (run_of d turns)) ≡ 0
unfolding run_of waiting_after admits_none
stays_run p [] d s w z identifier post none h = none
stays_run p (one_call c ∷ turns) d s w z identifier post none h =
    stays_run p turns (step_for d c).desk s (afterwards p w c (step_for d c).answer) (stands_turn p d s w z (one_call c)) identifier post
    (subst (λ (v : List Waiting). count_by (strays identifier post) v ≡ 0) (afterwards_air p d z.suits w c (step_for d c).answer)
    (stays_step d w z.along c identifier post none
    (ap (λ (k : ℕ). both (is_admission (step_for d c).answer) (eqb k identifier)) (meant_air p d z.suits c.message c.event) ∙ not_true _ (both_left _ _ h))))
    (both_right (not (both (is_admission (step_for d c).answer) (eqb (meant_by p c.message c.event) identifier))) _ h)
stays_run p (one_change rows ∷ turns) d s w z identifier post none h =
    stays_run p turns (change_of d rows).desk _ w (stands_turn p d s w z (one_change rows)) identifier post none (both_right true _ h)

-- ---- the parts of a history

pub waiting_parts : (p : Profile) (h k : History) (w : List Waiting) → waiting_after p w (h ++ k) ≡ waiting_after p (waiting_after p w h) k
unfolding waiting_after
waiting_parts p [] k w = refl
waiting_parts p (x ∷ h) k w = waiting_parts p h k (after_note p w x)

-- ---- after a move

module _ (p : Profile) (opens : profile_ok p ≡ true) (before : List Turn) (m : Call) (to : ℕ) (moved : (step_for (next p opens before) m).answer ≡ answer.Moved to) (since : List Turn) where
  -- the call that moved, and the post that accepted it
  abbrev pub which : ℕ
  which = meant_by p m.message m.event

  abbrev pub from : ℕ
  from = post_of m.event

  -- the post that it moved to is another one
  pub from_other : from ≡ to → ⊥
  from_other = moved_other (next p opens before) (waiting p opens before) (along p opens before) m to moved

  abbrev pub all : List Turn
  all = before ++ (one_call m ∷ since)

  -- since then no call with its identifier was admitted
  module _ (none : admits_none p which (run_of (step_for (next p opens before) m).desk since) ≡ true) where
    -- what waits right after the move
    abbrev then : List Waiting
    then = afterwards p (waiting p opens before) m (step_for (next p opens before) m).answer

    then_none : count_by (strays which to) then ≡ 0
    unfolding afterwards count_by both
    then_none =
        rw moved
        (let e = without_count which (strays which to) (waiting p opens before) in
        let z = count_none (λ x. both (not (eqb x.identifier which)) (strays which to x)) (λ x. never (eqb x.identifier which) _) (waiting p opens before) in
        let y : one (strays which to (record { identifier = which; post = to; second = no_party; cause = cause_of (waiting p opens before) which })) ≡ 0 = rw (eq-eqb which which refl, eq-eqb to to refl) refl in
        omega (arith, e, z, y))
      where
        never : (b c : Bool) → both (not b) (both b c) ≡ false
        never true c = refl
        never false c = refl

    then_stands : Stands p (step_for (next p opens before) m).desk (in_force p opens before) then
    then_stands = stands_turn p (next p opens before) (in_force p opens before) (waiting p opens before) (stands p opens before) (one_call m)

    waiting_all : waiting p opens all ≡ waiting_after p then (run_of (step_for (next p opens before) m).desk since)
    unfolding run_of waiting_after
    waiting_all =
        ap (λ (h : History). waiting_of p h) (run_parts before (one_call m ∷ since) (desk_with p))
        ∙ waiting_parts p (run_of (desk_with p) before) _ []

    only_there : count_by (strays which to) (waiting p opens all) ≡ 0
    only_there =
        ap (λ (w : List Waiting). count_by (strays which to) w) waiting_all
        ∙ stays_run p since (step_for (next p opens before) m).desk (in_force p opens before) then then_stands which to then_none none

    abbrev desk : Desk
    desk = next p opens all

    abbrev places : List Place
    places = places_of desk

    abbrev place : ℕ
    place = (place_of places which).place

    -- where it waits, it waits at the second post, and none is asked after that
    there : waits desk which ≡ true → ((place_in places place).post ≡ to) × ((place_in places place).more ≡ false)
    unfolding has_such both
    there e =
        let f = place_of_exactly places which place (spot_found (place_of places which) e) in
        facts (eqb (place_in places place).post to) refl (place_in places place).more refl
        (λ stray. omega (
          arith,
          only_there,
          some_such places (waiting p opens all) (along p opens all).same (strays which to) place f.inside
              (both_true _ _ f.used (both_true _ _ (eq-eqb _ _ f.same) stray)),
        ))
      where
        facts : (b : Bool) → eqb (place_in places place).post to ≡ b → (m : Bool) → (place_in places place).more ≡ m
            → (not (both (eqb (place_in places place).post to) (not (place_in places place).more)) ≡ true → ⊥)
            → ((place_in places place).post ≡ to) × (m ≡ false)
        facts true u true v k = absurd (k (rw (u, v) refl))
        facts true u false v k = (eqb-true _ _ u, refl)
        facts false u m v k = absurd (k (rw u refl))

    elsewhere : (post : ℕ) → (post ≡ to → ⊥) → waits desk which ≡ true → waits_here desk post which ≡ false
    elsewhere post d e = ne_eqb _ _ (λ z. d (sym z ∙ (there e).0))

    -- the waiting calls are counted from the history
    waits_so : (b : Bool) → is_waiting (waiting p opens all) which ≡ b → waits desk which ≡ b
    waits_so b e = sym (waiting_is p opens all which) ∙ e

    -- an ACCEPT by any other post, the first one among them, gets 20 while the call waits, and 19 afterwards
    module _ (c : Call) (post : ℕ) (other : post ≡ to → ⊥) (sent : IsSent p 12 c post which) where
      accept_is : (step_for desk c).answer ≡ decide_answer desk (length c.area) post which (accept_answer desk place)
      accept_is =
          read_by p opens all c 12 post which sent ∙ sent_accept desk c (length c.area) post sent.value sent.type_is
          ∙ ap (λ (i : ℕ). decide_answer desk (length c.area) post i (accept_answer desk (place_of places i).place)) sent.names

      pub accept_20 : is_waiting (waiting p opens all) which ≡ true → (step_for desk c).answer ≡ answer.Refused (refusal 20)
      accept_20 e =
          accept_is ∙ decide_20 desk (length c.area) post which (accept_answer desk place) sent.room (waits_so true e) (elsewhere post other (waits_so true e))

      pub accept_19 : is_waiting (waiting p opens all) which ≡ false → (step_for desk c).answer ≡ answer.Refused (refusal 19)
      accept_19 e = accept_is ∙ decide_19 desk (length c.area) post which (accept_answer desk place) sent.room (waits_so false e)

    -- a DIVERT likewise
    module _ (c : Call) (post : ℕ) (other : post ≡ to → ⊥) (sent : IsSent p 15 c post which) where
      pub divert_20 : is_waiting (waiting p opens all) which ≡ true → (step_for desk c).answer ≡ answer.Refused (refusal 20)
      divert_20 e =
          read_by p opens all c 15 post which sent ∙ sent_divert desk c (length c.area) post sent.value sent.type_is
          ∙ ap (λ (i : ℕ). decide_answer desk (length c.area) post i answer.Diverted) sent.names
          ∙ decide_20 desk (length c.area) post which answer.Diverted sent.room (waits_so true e) (elsewhere post other (waits_so true e))

    -- and a reject
    pub reject_20 : (c : Call) (post : ℕ) → (post ≡ to → ⊥) → c.event ≡ event.Reject post which → post < p.shares.posts → which < 2 ^ 14 → 300 ≤ length c.area
        → is_waiting (waiting p opens all) which ≡ true → (step_for desk c).answer ≡ answer.Refused (refusal 20)
    unfolding answer_of reject_answer
    reject_20 c post other is below small room e =
        step_answer desk c.rows c.count c.message c.area c.event
        ∙ ap (λ (x : Event). answer_of desk c.rows c.count c.message (length c.area) x) is
        ∙ rw (
          stays_ok p opens all,
          lt-ltb post (posts_of desk) (subst (λ (k : ℕ). post < k) (sym (posts_next p opens all)) below),
          lt-ltb which (2 ^ 14) small,
        )
        (decide_20 desk (length c.area) post which answer.Rejected room (waits_so true e) (elsewhere post other (waits_so true e)))

    -- the second post's ACCEPT lets it proceed
    pub second_proceeds : (c : Call) → IsSent p 12 c to which → is_waiting (waiting p opens all) which ≡ true → (step_for desk c).answer ≡ answer.Proceed
    unfolding accept_answer
    second_proceeds c sent e =
        let w = waits_so true e in
        read_by p opens all c 12 to which sent ∙ sent_accept desk c (length c.area) to sent.value sent.type_is
        ∙ ap (λ (i : ℕ). decide_answer desk (length c.area) to i (accept_answer desk (place_of places i).place)) sent.names
        ∙ decide_here desk (length c.area) to which (accept_answer desk place) sent.room w (eq-eqb _ _ (there w).0)
        ∙ rw (there w).1 refl
