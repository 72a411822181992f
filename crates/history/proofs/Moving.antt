-- Demand 3 of a move (document 02, iii), over any history from an opened desk, counted from the history alone: an ACCEPT of a call that has
-- a second post goes by the same rule as a set-up, for that post, by the shares in force, with the call's own place taken as free. After a
-- move the call proceeds by the second post's ACCEPT alone. Assumes nothing.
use Prim.Native.Nat.{ℕ, zero, suc, ◌+◌, ◌<◌, ◌≤◌}
use mathlib.Core.Path.{◌≡◌, refl, sym, ap, ◌∙◌, subst}
use mathlib.Core.Bool.{Bool, true, false, not}
use mathlib.Core.List.{List, [], ◌∷◌}
use mathlib.Core.Logic.{◌⊎◌}
use native.Mathlib.Omega.{arith}
use lib.Dec.{eqb, ltb}
use lib.ListN.{length}
use borrow.Author.Tests.{eq-eqb, eqb-true, lt-ltb, le-ltb, ltb-true}
use Rattle.codec.specs.Codec.{both}
use Rattle.codec.specs.Stops.{refusal}
use Rattle.codec.proofs.Good.{both_left, both_right, not_both}
use Rattle.profile.specs.Counting.{one, sum}
use Rattle.profile.specs.Rules.{profile_ok}
use Rattle.profile.specs.declared.Profile.{Profile}
use Rattle.profile.specs.declared.Shares.{Shares}
use Rattle.message.specs.Values.{identifier_in}
use Rattle.message.specs.declared.Value.{Value}
use Rattle.places.specs.Held.{place_in, admits_of}
use Rattle.places.specs.Grounds.{places_ok}
use Rattle.places.specs.Spots.{spot_at, place_of, clear_of}
use Rattle.places.specs.declared.Place.{Place}
use Rattle.places.specs.declared.Spot.{Spot}
use Rattle.places.proofs.HeldLaws.{length_clear}
use Rattle.places.proofs.PlaceLaws.{passes, clear_keeps}
use Rattle.places.proofs.CallLaws.{place_of_waiting}
use Rattle.desk.specs.Grounds.{waits, waits_here}
use Rattle.desk.specs.Orders.{posts_of, places_of, end_answer, move_answer, accept_answer, decide_answer, sent_answer, message_answer, answer_of}
use Rattle.desk.specs.declared.Answer.{Answer}
use Rattle.desk.specs.declared.Answer.TheVariants as answer
use Rattle.desk.specs.declared.Desk.{Desk}
use Rattle.desk.specs.declared.Event.{Event}
use Rattle.desk.proofs.AnswerLaws.{step_answer}
use Rattle.desk.proofs.Moves.{is_moved}
use Rattle.history.specs.Histories.{Call, Turn, step_for, Waiting, without, count_by, held_by, free_by, owed_to_others, is_asked_next, is_asked_last, IsSent}
use Rattle.history.proofs.WaitingLaws.{call_in, has_such, Same, same_clear}
use Rattle.history.proofs.RuleLaws.{reserved_yes, none_no, else_yes, no_none}
use Rattle.history.proofs.RunLaws.{read_air, along}
use Rattle.history.proofs.Sharing.{waiting, in_force, next, share, suits, in_force_lem, posts_next, fit, sound, stays_ok}

-- ---- where a waiting call stands

-- one of the first n numbers passes a test
record At (n : ℕ) (test : ℕ → Bool) : Type 0 where
  pub i : ℕ
  pub inside : i < n
  pub yes : test i ≡ true

some_at : (n : ℕ) (test : ℕ → Bool) → 0 < sum n (λ i. one (test i)) → At n test
unfolding sum
some_at zero test h = absurd (omega arith)
some_at (suc n) test h = go (test n) refl h (λ k. some_at n test k)
  where
    go : (b : Bool) → test n ≡ b → 0 < sum n (λ i. one (test i)) + one b → (0 < sum n (λ i. one (test i)) → At n test) → At (suc n) test
    go true e k less = record { i = n; inside = omega arith; yes = e }
    go false e k less =
        let r = less (omega arith) in
        let h = r.inside in
        record { i = r.i; inside = omega arith; yes = r.yes }

such_at : (l : List Place) (w : List Waiting) → Same l w → (test : Waiting → Bool) → ltb 0 (count_by test w) ≡ true → At 32 (λ i. has_such test (place_in l i))
unfolding Same
such_at l w s test e = some_at 32 (λ i. has_such test (place_in l i)) (omega (arith, ltb-true 0 (count_by test w) e, s test))

-- a test that no waiting call passes
pub count_none : (test : Waiting → Bool) → ((x : Waiting) → test x ≡ false) → (w : List Waiting) → count_by test w ≡ 0
unfolding count_by
count_none test h [] = refl
count_none test h (x ∷ w) = let z : one (test x) ≡ 0 = ap one (h x) in omega (arith, z, count_none test h w)

-- ---- the answer to a post's message

pub sent_accept : (d : Desk) (c : Call) (room post : ℕ) (v : Value) → v.pdu ≡ 12
    → sent_answer d c.rows c.count room post v ≡ decide_answer d room post (identifier_in v) (accept_answer d (place_of (places_of d) (identifier_in v)).place)
unfolding sent_answer
sent_accept d c room post v e = rw (ap (λ (k : ℕ). eqb k 2) e, ap (λ (k : ℕ). eqb k 4) e, ap (λ (k : ℕ). eqb k 8) e, ap (λ (k : ℕ). eqb k 12) e) refl

pub sent_divert : (d : Desk) (c : Call) (room post : ℕ) (v : Value) → v.pdu ≡ 15
    → sent_answer d c.rows c.count room post v ≡ decide_answer d room post (identifier_in v) answer.Diverted
unfolding sent_answer
sent_divert d c room post v e = rw (ap (λ (k : ℕ). eqb k 2) e, ap (λ (k : ℕ). eqb k 4) e, ap (λ (k : ℕ). eqb k 8) e, ap (λ (k : ℕ). eqb k 12) e, ap (λ (k : ℕ). eqb k 15) e) refl

module _ (d : Desk) (room post identifier : ℕ) (a : Answer) (roomy : 300 ≤ room) where
  pub decide_19 : waits d identifier ≡ false → decide_answer d room post identifier a ≡ answer.Refused (refusal 19)
  unfolding decide_answer end_answer
  decide_19 e = rw (le-ltb room 300 roomy, e) refl

  pub decide_20 : waits d identifier ≡ true → waits_here d post identifier ≡ false → decide_answer d room post identifier a ≡ answer.Refused (refusal 20)
  unfolding decide_answer end_answer
  decide_20 e h = rw (le-ltb room 300 roomy, e, h) refl

  pub decide_here : waits d identifier ≡ true → waits_here d post identifier ≡ true → decide_answer d room post identifier a ≡ a
  unfolding decide_answer end_answer
  decide_here e h = rw (le-ltb room 300 roomy, e, h) refl

-- ---- the history, its desk and its waiting calls

module _ (p : Profile) (opens : profile_ok p ≡ true) (turns : List Turn) where
  abbrev desk : Desk
  desk = next p opens turns

  abbrev places : List Place
  places = places_of desk

  abbrev size : length places ≡ 32
  size = (along p opens turns).size

  abbrev same : Same places (waiting p opens turns)
  same = (along p opens turns).same

  -- the shares in force
  abbrev shares : Shares
  shares = in_force p opens turns

  -- the next call, a message of one type from a post, which means this call
  module _ (c : Call) (type post identifier : ℕ) (sent : IsSent p type c post identifier) where
    pub read_by : (step_for desk c).answer ≡ sent_answer desk c.rows c.count (length c.area) post sent.value
    unfolding answer_of message_answer
    read_by =
        step_answer desk c.rows c.count c.message c.area c.event
        ∙ ap (λ (e : Event). answer_of desk c.rows c.count c.message (length c.area) e) sent.event_is
        ∙ rw (
          stays_ok p opens turns,
          lt-ltb post (posts_of desk) (subst (λ (k : ℕ). post < k) (sym (posts_next p opens turns)) sent.below),
          read_air p desk (suits p opens turns) c.message sent.bits ∙ sent.reads,
        ) refl

  -- ---- an ACCEPT

  module _ (c : Call) (post identifier : ℕ) (sent : IsSent p 12 c post identifier) where
    abbrev place : ℕ
    place = (place_of places identifier).place

    accepting : (step_for desk c).answer ≡ decide_answer desk (length c.area) post identifier (accept_answer desk place)
    accepting =
        read_by c 12 post identifier sent ∙ sent_accept desk c (length c.area) post sent.value sent.type_is
        ∙ ap (λ (i : ℕ). decide_answer desk (length c.area) post i (accept_answer desk (place_of places i).place)) sent.names

    -- the call waits at the post that accepts it
    record Here (i : ℕ) : Type 0 where
      pub at : place_of places identifier ≡ spot_at i
      pub used : (place_in places i).used ≡ true
      pub inside : i < 32
      pub is_here : (place_in places i).post ≡ post

    found_here : (test : Waiting → Bool) (i : ℕ) → i < 32 → has_such (λ x. both (eqb x.identifier identifier) (both (eqb x.post post) (test x))) (place_in places i) ≡ true
        → Here i × (test (call_in (place_in places i)) ≡ true)
    unfolding has_such
    found_here test i h e =
        let u = both_left (place_in places i).used _ e in
        let a = both_right (place_in places i).used _ e in
        let b = both_right (eqb (place_in places i).identifier identifier) _ a in (
          record {
            at = place_of_waiting places i shares (sound p opens turns) identifier h u (eqb-true _ _ (both_left _ _ a));
            used = u;
            inside = h;
            is_here = eqb-true _ _ (both_left _ _ b);
          },
          both_right (eqb (place_in places i).post post) _ b,
        )

    module _ (i : ℕ) (here : Here i) where
      place_is : place ≡ i
      place_is = ap (λ (s : Spot). s.place) here.at

      accepted : (step_for desk c).answer ≡ accept_answer desk place
      accepted =
          accepting ∙ decide_here desk (length c.area) post identifier (accept_answer desk place) sent.room (ap (λ (s : Spot). s.found) here.at)
          (eq-eqb _ _ (ap (λ (k : ℕ). (place_in places k).post) place_is ∙ here.is_here))

    -- after which none is asked: it proceeds
    pub proceeds : is_asked_last (waiting p opens turns) identifier post ≡ true → (step_for desk c).answer ≡ answer.Proceed
    unfolding is_asked_last accept_answer
    proceeds asked =
        let s = such_at places (waiting p opens turns) same (λ x. both (eqb x.identifier identifier) (both (eqb x.post post) (not x.second.found))) asked in
        let f = found_here (λ x. not x.second.found) s.i s.inside s.yes in
        let none : (place_in places place).more ≡ false = ap (λ (k : ℕ). (place_in places k).more) (place_is s.i f.0) ∙ not_true (place_in places s.i).more f.1 in
        accepted s.i f.0 ∙ rw none refl
      where
        not_true : (b : Bool) → not b ≡ true → b ≡ false
        not_true true e = not_both e
        not_true false e = refl

    -- and one for which this post is asked second
    module _ (second : ℕ) (asked : is_asked_next (waiting p opens turns) identifier post second ≡ true) where
      -- the waiting calls without this one: its own place is taken as free
      abbrev pub others : List Waiting
      others = without identifier (waiting p opens turns)

      record Two : Type 0 where
        pub i : ℕ
        pub here : Here i
        pub more : (place_in places i).more ≡ true
        pub second_is : (place_in places i).second ≡ second

      two : Two
      unfolding is_asked_next
      two =
          let s = such_at places (waiting p opens turns) same (λ x. both (eqb x.identifier identifier) (both (eqb x.post post) (both x.second.found (eqb x.second.post second)))) asked in
          let f = found_here (λ x. both x.second.found (eqb x.second.post second)) s.i s.inside s.yes in
          record { i = s.i; here = f.0; more = both_left _ _ f.1; second_is = eqb-true _ _ (both_right (place_in places s.i).more _ f.1) }

      abbrev rest : List Place
      rest = clear_of places two.i

      -- its answer goes by the places rule for the second post, on the desk without it
      moving : (step_for desk c).answer ≡ move_answer desk two.i second
      unfolding accept_answer
      moving =
          let e = place_is two.i two.here in
          let m : (place_in places place).more ≡ true = ap (λ (k : ℕ). (place_in places k).more) e ∙ two.more in
          let q : (place_in places place).second ≡ second = ap (λ (k : ℕ). (place_in places k).second) e ∙ two.second_is in
          accepted two.i two.here ∙ rw m (ap (λ (k : ℕ). move_answer desk place k) q ∙ ap (λ (k : ℕ). move_answer desk k second) e)

      yes : admits_of shares rest second ≡ true → (step_for desk c).answer ≡ answer.Moved second
      unfolding move_answer
      yes e = moving ∙ rw (ap (λ (x : Shares). admits_of x rest second) (in_force_lem p opens turns) ∙ e) refl

      no : admits_of shares rest second ≡ false → (step_for desk c).answer ≡ answer.Refused (refusal 18)
      unfolding move_answer
      no e = moving ∙ rw (ap (λ (x : Shares). admits_of x rest second) (in_force_lem p opens turns) ∙ e) refl

      pub below : second < shares.posts
      below = subst (λ (k : ℕ). k < shares.posts) two.second_is (((passes shares places (sound p opens turns)).calls two.i two.here.inside two.here.used).second two.more)

      rest_size : length rest ≡ 32
      rest_size = length_clear places two.i ∙ size

      rest_sound : places_ok shares rest ≡ true
      rest_sound = clear_keeps shares places size two.i (sound p opens turns)

      rest_same : Same rest others
      rest_same = same_clear shares places (waiting p opens turns) size (sound p opens turns) same two.i identifier two.here.at

      -- a move to a post below its reserved number is never refused for want of a place
      pub move_reserved : held_by others second < (share p opens turns second).reserved → (step_for desk c).answer ≡ answer.Moved second
      move_reserved h = yes (reserved_yes shares (fit p opens turns) rest others rest_size rest_sound rest_same second below h)

      -- the second post is at its ceiling, or the free places are no more than the other posts are owed, this call not counted
      abbrev pub NoPlaceThere : Type 0
      NoPlaceThere = (held_by others second ≡ (share p opens turns second).ceiling) ⊎ (free_by others ≤ owed_to_others shares others second)

      -- otherwise it gets 18 exactly if there is no place for it
      pub move_refused_exactly : (share p opens turns second).reserved ≤ held_by others second
          → (NoPlaceThere → (step_for desk c).answer ≡ answer.Refused (refusal 18)) × ((step_for desk c).answer ≡ answer.Refused (refusal 18) → NoPlaceThere)
      move_refused_exactly h = (
        λ k. no (none_no shares (fit p opens turns) rest others rest_size rest_sound rest_same second below h k),
        λ z. (no_none shares (fit p opens turns) rest others rest_size rest_sound rest_same second below (go z (admits_of shares rest second) refl)).1,
      )
        where
          go : (step_for desk c).answer ≡ answer.Refused (refusal 18) → (b : Bool) → admits_of shares rest second ≡ b → b ≡ false
          go z true e = not_both (ap is_moved (sym z ∙ yes e))
          go z false e = refl

      -- and moves else
      pub move_else : (share p opens turns second).reserved ≤ held_by others second → (NoPlaceThere → ⊥) → (step_for desk c).answer ≡ answer.Moved second
      move_else h k = yes (else_yes shares (fit p opens turns) rest others rest_size rest_sound rest_same second below h k)
