-- The waiting calls of a history are the used places of the desk, however one counts them. Assumes nothing.
use Prim.Native.Nat.{ℕ, ◌+◌, ◌-◌, ◌<◌, ◌≤◌}
use mathlib.Core.Path.{◌≡◌, refl, sym, ap, ◌∙◌}
use mathlib.Core.Bool.{Bool, true, false, not, cond}
use mathlib.Core.List.{List, [], ◌∷◌}
use mathlib.Core.Logic.{⊎_elim}
use native.Mathlib.Nat.{eq-or-lt_of_le}
use native.Mathlib.Omega.{arith}
use lib.Dec.{eqb, ltb}
use lib.ListN.{length}
use borrow.Author.Tests.{eq-eqb, eqb-true, ne_eqb, lt-ltb, le-ltb}
use Rattle.bits.proofs.SetLaws.{lt_or, eq_or}
use Rattle.codec.specs.Codec.{both}
use Rattle.codec.proofs.Good.{both_true}
use Rattle.profile.specs.Counting.{one, sum}
use Rattle.profile.specs.Rules.{share_in}
use Rattle.profile.specs.declared.Shares.{Shares}
use Rattle.places.specs.Held.{no_place, place_in, no_places, waits_at, held_of, used_of, free_of, owed_of, owed_others}
use Rattle.places.specs.Grounds.{places_ok}
use Rattle.places.specs.Spots.{spot_at, place_of, place_for, take_of, clear_of}
use Rattle.places.specs.declared.Call.{Call}
use Rattle.places.specs.declared.Place.{Place}
use Rattle.places.proofs.SumLaws.{sum_same, sum_bump, sum_zero, sum_without}
use Rattle.places.proofs.HeldLaws.{count_set, count_clear, none_at, waiting_inside}
use Rattle.places.proofs.SpotLaws.{place_of_exactly, no_place_exactly, spot_found}
use Rattle.places.proofs.PlaceLaws.{passes}
use Rattle.history.specs.Histories.{Waiting, without, cause_of, count_by, is_waiting, held_by, free_by, owed_by, owed_to_others}

-- the call in a place
abbrev pub call_in : Place → Waiting
call_in p = record { identifier = p.identifier; post = p.post; second = record { found = p.more; post = p.second }; cause = p.cause }

-- the call that is taken in
abbrev pub waiting_for : Call → Waiting
waiting_for x = record { identifier = x.identifier; post = x.post; second = record { found = x.more; post = x.second }; cause = x.cause }

-- the call in a place passes a test
unfoldable pub has_such : (Waiting → Bool) → Place → Bool
has_such test p = both p.used (test (call_in p))

-- as many used places pass a test as waiting calls do, whatever the test
unfoldable pub Same : List Place → List Waiting → Type 0
Same l w = (test : Waiting → Bool) → count_by test w ≡ sum 32 (λ i. one (has_such test (place_in l i)))

-- ---- none, one more, one less

pub same_none : Same no_places []
unfolding Same count_by has_such both
same_none test = sym (sum_zero 32 (λ i. one (has_such test (place_in no_places i))) (λ i. rw (none_at i) refl))

module _ (l : List Place) (w : List Waiting) (n : length l ≡ 32) (s : Same l w) where
  pub same_take : (i : ℕ) (x : Call) → i < 32 → (place_in l i).used ≡ false → Same (take_of l i x) (waiting_for x ∷ w)
  unfolding Same count_by take_of has_such both
  same_take i x h free test =
      let e = count_set (λ (p : Place). one (has_such test p)) l n i (place_for x) h in
      let z : one (has_such test (place_in l i)) ≡ 0 = rw free refl in
      omega (arith, e, z, s test)

-- a test that no call with the identifier passes
abbrev apart : ℕ → (Waiting → Bool) → Waiting → Bool
apart identifier test x = both (not (eqb x.identifier identifier)) (test x)

pub without_count : (identifier : ℕ) (test : Waiting → Bool) (w : List Waiting) → count_by test (without identifier w) ≡ count_by (apart identifier test) w
unfolding count_by without both
without_count identifier test [] = refl
without_count identifier test (x ∷ w) = go (eqb x.identifier identifier) (without_count identifier test w)
  where
    go : (b : Bool) → count_by test (without identifier w) ≡ count_by (apart identifier test) w
        → count_by test (cond b (without identifier w) (x ∷ without identifier w)) ≡ one (both (not b) (test x)) + count_by (apart identifier test) w
    go true e = omega (arith, e)
    go false e = omega (arith, e)

apart_such : (identifier : ℕ) (test : Waiting → Bool) (p : Place) → (p.used ≡ true → p.identifier ≡ identifier → ⊥) → has_such (apart identifier test) p ≡ has_such test p
unfolding has_such both
apart_such identifier test p h = go p.used refl
  where
    go : (b : Bool) → p.used ≡ b → both b (apart identifier test (call_in p)) ≡ both b (test (call_in p))
    go true u = rw (ne_eqb p.identifier identifier (h u)) refl
    go false u = refl

own_such : (identifier : ℕ) (test : Waiting → Bool) (p : Place) → p.identifier ≡ identifier → has_such (apart identifier test) p ≡ false
unfolding has_such both
own_such identifier test p e = rw (eq-eqb p.identifier identifier e) (go p.used)
  where
    go : (b : Bool) → both b false ≡ false
    go true = refl
    go false = refl

free_such : (test : Waiting → Bool) → has_such test no_place ≡ false
unfolding has_such both
free_such test = refl

both_yes : (b : Bool) → both b true ≡ b
unfolding both
both_yes true = refl
both_yes false = refl

length_count : (w : List Waiting) → count_by (λ x. true) w ≡ length w
unfolding count_by
length_count [] = refl
length_count (x ∷ w) = omega (arith, length_count w)

such_here : (identifier : ℕ) (p : Place) → p.used ≡ true → p.identifier ≡ identifier → has_such (λ x. eqb x.identifier identifier) p ≡ true
unfolding has_such
such_here identifier p u e = both_true _ _ u (eq-eqb p.identifier identifier e)

such_not : (identifier : ℕ) (p : Place) → (p.used ≡ true → p.identifier ≡ identifier → ⊥) → has_such (λ x. eqb x.identifier identifier) p ≡ false
unfolding has_such both
such_not identifier p h = go p.used refl
  where
    go : (b : Bool) → p.used ≡ b → both b (eqb p.identifier identifier) ≡ false
    go true u = ne_eqb p.identifier identifier (h u)
    go false u = refl

module _ (l : List Place) (w : List Waiting) (s : Same l w) where
  pub some_such : (test : Waiting → Bool) (i : ℕ) → i < 32 → has_such test (place_in l i) ≡ true → 0 < count_by test w
  unfolding Same
  some_such test i h e =
      let z : one (has_such test (place_in l i)) ≡ 1 = ap one e in
      omega (arith, sum_without 32 i (λ j. one (has_such test (place_in l j))) h, z, s test)

  none_such : (test : Waiting → Bool) → ((j : ℕ) → j < 32 → has_such test (place_in l j) ≡ false) → count_by test w ≤ 0
  unfolding Same
  none_such test h =
      let e = sum_same 32 (λ j. 0) (λ j. one (has_such test (place_in l j))) (λ j k. ap one (h j k)) in
      omega (arith, e, sum_zero 32 (λ j. 0) (λ j. refl), s test)

-- a call with the identifier and another cause
abbrev otherwise : ℕ → ℕ → Waiting → Bool
otherwise identifier cause x = both (eqb x.identifier identifier) (not (eqb x.cause cause))

only_cause : (identifier cause : ℕ) (w : List Waiting) → 0 < count_by (λ x. eqb x.identifier identifier) w → count_by (otherwise identifier cause) w ≤ 0
    → cause_of w identifier ≡ cause
unfolding count_by cause_of both
only_cause identifier cause [] h k = absurd (omega arith)
only_cause identifier cause (x ∷ w) h k = go (eqb x.identifier identifier) (eqb x.cause cause) refl (only_cause identifier cause w) h k
  where
    go : (b e : Bool) → eqb x.cause cause ≡ e
        → (0 < count_by (λ y. eqb y.identifier identifier) w → count_by (otherwise identifier cause) w ≤ 0 → cause_of w identifier ≡ cause)
        → 0 < one b + count_by (λ y. eqb y.identifier identifier) w
        → one (both b (not e)) + count_by (otherwise identifier cause) w ≤ 0 → cond b x.cause (cause_of w identifier) ≡ cause
    go true true z rest p q = eqb-true _ _ z
    go true false z rest p q = absurd (omega arith)
    go false e z rest p q = rest (omega arith) (omega arith)

module _ (shares : Shares) (l : List Place) (w : List Waiting) (n : length l ≡ 32) (ok : places_ok shares l ≡ true) (s : Same l w) where
  -- no other place has the identifier of a call that waits
  others_apart : (i j identifier : ℕ) → place_of l identifier ≡ spot_at i → (j ≡ i → ⊥) → (place_in l j).used ≡ true → (place_in l j).identifier ≡ identifier → ⊥
  others_apart i j identifier at d u e =
      let p = passes shares l ok in
      let f = place_of_exactly l identifier i at in
      let inside = waiting_inside l n j u in
      ⊎_elim
      (λ h. p.alone i j f.inside h f.used u (f.same ∙ sym e))
      (λ h. ⊎_elim (λ k. d (sym k)) (λ k. p.alone j i inside k u f.used (e ∙ sym f.same)) (eq-or-lt_of_le h))
      (lt_or j i)

  pub same_clear : (i identifier : ℕ) → place_of l identifier ≡ spot_at i → Same (clear_of l i) (without identifier w)
  unfolding Same clear_of
  same_clear i identifier at test =
      let f = place_of_exactly l identifier i at in
      let c = count_clear (λ (p : Place). one (has_such test p)) l n i (ap one (free_such test)) in
      let b = sum_bump 32 i (λ j. one (has_such test (place_in l j))) (λ j. one (has_such (apart identifier test) (place_in l j))) f.inside
      (λ j d. ap one (apart_such identifier test (place_in l j) (others_apart i j identifier at d))) in
      let z : one (has_such (apart identifier test) (place_in l i)) ≡ 0 = ap one (own_such identifier test (place_in l i) f.same) in
      omega (arith, c, b, z, s (apart identifier test), without_count identifier test w)

  -- the cause with which the history has a call waiting is its place's
  pub cause_same : (i identifier : ℕ) → place_of l identifier ≡ spot_at i → cause_of w identifier ≡ (place_in l i).cause
  unfolding has_such both
  cause_same i identifier at =
      let f = place_of_exactly l identifier i at in
      only_cause identifier (place_in l i).cause w
      (some_such l w s (λ x. eqb x.identifier identifier) i f.inside (such_here identifier (place_in l i) f.used f.same))
      (none_such l w s (otherwise identifier (place_in l i).cause) (λ j h. go j (place_in l j).used refl (eqb (place_in l j).identifier identifier) refl))
    where
      go : (j : ℕ) (u : Bool) → (place_in l j).used ≡ u → (e : Bool) → eqb (place_in l j).identifier identifier ≡ e
          → both u (both e (not (eqb (place_in l j).cause (place_in l i).cause))) ≡ false
      go j true u true e = ⊎_elim
          (λ d. ap not (eq-eqb (place_in l j).cause (place_in l i).cause (ap (λ (k : ℕ). (place_in l k).cause) d)))
          (λ d. absurd (others_apart i j identifier at d u (eqb-true _ _ e)))
          (eq_or j i)
      go j true u false e = refl
      go j false u e z = refl

  -- ---- what is counted from the history is what the desk counts

  pub held_same : (q : ℕ) → held_by w q ≡ held_of l q
  unfolding held_by held_of waits_at Same has_such
  held_same q = s (λ x. eqb x.post q)

  pub used_same : length w ≡ used_of l
  unfolding used_of Same has_such
  used_same =
      sym (length_count w) ∙ s (λ x. true) ∙ sum_same 32 (λ i. one (place_in l i).used) (λ i. one (both (place_in l i).used true)) (λ i h. ap one (both_yes (place_in l i).used))

  pub free_same : free_by w ≡ free_of l
  unfolding free_by free_of
  free_same = ap (λ (k : ℕ). 32 - k) used_same

  pub owed_same : (q : ℕ) → owed_to_others shares w q ≡ owed_others shares l q
  unfolding owed_to_others owed_by owed_others owed_of
  owed_same q =
      sum_same shares.posts (λ r. cond (eqb r q) 0 ((share_in shares.share r).reserved - held_of l r)) (λ r. cond (eqb r q) 0 ((share_in shares.share r).reserved - held_by w r))
      (λ r h. rw (held_same r) refl)

  pub waiting_same : (identifier : ℕ) → is_waiting w identifier ≡ (place_of l identifier).found
  unfolding is_waiting
  waiting_same identifier = go (place_of l identifier).found refl
    where
      go : (b : Bool) → (place_of l identifier).found ≡ b → ltb 0 (count_by (λ x. eqb x.identifier identifier) w) ≡ b
      go true e =
          let at = spot_found (place_of l identifier) e in
          let f = place_of_exactly l identifier (place_of l identifier).place at in
          lt-ltb 0 _ (some_such l w s (λ x. eqb x.identifier identifier) (place_of l identifier).place f.inside (such_here identifier (place_in l (place_of l identifier).place) f.used f.same))
      go false e =
          le-ltb 0 _ (none_such l w s (λ x. eqb x.identifier identifier) (λ j h. such_not identifier (place_in l j) (λ u d. no_place_exactly l identifier e j h u d)))
