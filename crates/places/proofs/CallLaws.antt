-- Where calls wait after a place is taken or cleared: the call in question, and every other. Assumes nothing.
use Prim.Native.Nat.{ℕ, ◌<◌}
use mathlib.Core.Path.{◌≡◌, refl, sym, ◌∙◌, ap}
use mathlib.Core.Bool.{Bool, true, false, cond}
use mathlib.Core.List.{List}
use mathlib.Core.Logic.{◌⊎◌, inl, inr, ⊎_elim}
use native.Mathlib.Omega.{arith}
use lib.Dec.{eqb, ltb}
use lib.ListN.{length}
use borrow.Author.Tests.{eqb-true, eqb-false, eq-eqb, ltb-true, ltb-false}
use Rattle.codec.specs.Codec.{both}
use Rattle.codec.proofs.Good.{not_both}
use Rattle.profile.specs.declared.Shares.{Shares}
use Rattle.places.specs.Held.{no_place, place_in}
use Rattle.places.specs.Grounds.{places_ok}
use Rattle.places.specs.Spots.{spot_at, has_call, place_of, place_for, take_of, clear_of}
use Rattle.places.specs.declared.Call.{Call}
use Rattle.places.specs.declared.Place.{Place}
use Rattle.places.specs.declared.Spot.{Spot}
use Rattle.places.proofs.SpotLaws.{WaitsFirst, lowest_same, lowest_none, lowest_found, lowest_no, has_call_lem, place_of_exactly}
use Rattle.places.proofs.HeldLaws.{set_by, set_here, set_there, used_clear}
use Rattle.places.proofs.PlaceLaws.{passes}

has_not : (p : Place) (identifier : ℕ) → (p.used ≡ true → p.identifier ≡ identifier → ⊥) → has_call p identifier ≡ false
unfolding has_call both
has_not p identifier h = go p.used refl (eqb p.identifier identifier) refl
  where
    go : (b : Bool) → p.used ≡ b → (t : Bool) → eqb p.identifier identifier ≡ t → both b t ≡ false
    go true u true e = absurd (h u (eqb-true _ _ e))
    go true u false e = refl
    go false u t e = refl

either : (j i : ℕ) → (j ≡ i → ⊥) → (j < i) ⊎ (i < j)
either j i d = go (ltb j i) refl
  where
    go : (b : Bool) → ltb j i ≡ b → (j < i) ⊎ (i < j)
    go true e = inl (ltb-true j i e)
    go false e = let k = ltb-false j i e in inr (omega arith)

-- ---- a place taken

module _ (l : List Place) (n : length l ≡ 32) (i : ℕ) (x : Call) (h : i < 32) where
  -- a call that waited nowhere waits there
  pub place_take_own : (place_of l x.identifier).found ≡ false → place_of (take_of l i x) x.identifier ≡ spot_at i
  unfolding place_of take_of has_call both
  place_take_own none =
      lowest_found 32 i _
      (record {
        inside = h;
        passes = rw (set_here l i (place_for x) (omega arith)) (own x.identifier);
        before = λ j k. rw (set_there l i j (place_for x) (λ d. omega arith)) (lowest_no 32 _ none j (omega arith));
      })
    where
      own : (a : ℕ) → eqb a a ≡ true
      own a = eq-eqb a a refl

  -- every other call waits where it did
  pub place_take_other : (place_in l i).used ≡ false → (other : ℕ) → (other ≡ x.identifier → ⊥) → place_of (take_of l i x) other ≡ place_of l other
  unfolding place_of take_of
  place_take_other free other d =
      lowest_same 32 _ _
      (λ j k.
      set_by l i (place_for x) (omega arith) (λ (q : Place). has_call q other ≡ has_call (place_in l j) other) j
      (λ e. has_not (place_for x) other (λ u z. d (sym z)) ∙ sym (rw e (has_not (place_in l i) other (λ u z. not_both (sym free ∙ u)))))
      (λ e. refl))

-- ---- a place cleared

module _ (l : List Place) (i : ℕ) where
  clear_has : (j identifier : ℕ) → has_call (place_in (clear_of l i) j) identifier ≡ cond (eqb j i) false (has_call (place_in l j) identifier)
  clear_has j identifier = rw (used_clear l i j) (go (eqb j i))
    where
      go : (b : Bool) → has_call (cond b no_place (place_in l j)) identifier ≡ cond b false (has_call (place_in l j) identifier)
      go true = has_not no_place identifier (λ u z. not_both u)
      go false = refl

  -- every call that did not wait there waits where it did
  pub place_clear_other : (other : ℕ) → ((place_in l i).used ≡ true → (place_in l i).identifier ≡ other → ⊥) → place_of (clear_of l i) other ≡ place_of l other
  unfolding place_of
  place_clear_other other d = lowest_same 32 _ _ (λ j k. clear_has j other ∙ go j (eqb j i) refl)
    where
      go : (j : ℕ) (b : Bool) → eqb j i ≡ b → cond b false (has_call (place_in l j) other) ≡ has_call (place_in l j) other
      go j true e = let z = eqb-true j i e in sym (rw z (has_not (place_in l i) other d))
      go j false e = refl

  module _ (shares : Shares) (ok : places_ok shares l ≡ true) where
    -- on a desk that passes a call waits in one place
    pub place_of_waiting : (identifier : ℕ) → i < 32 → (place_in l i).used ≡ true → (place_in l i).identifier ≡ identifier → place_of l identifier ≡ spot_at i
    unfolding place_of
    place_of_waiting identifier h u d =
        let w = passes shares l ok in
        lowest_found 32 i _
        (record {
          inside = h;
          passes = has_call_lem l i identifier u d;
          before = λ j k. has_not (place_in l j) identifier (λ v z. w.alone i j h k u v (d ∙ sym z));
        })

    -- so where that place is cleared, it waits nowhere
    pub place_clear_own : (identifier : ℕ) → place_of l identifier ≡ spot_at i → (place_of (clear_of l i) identifier).found ≡ false
    unfolding place_of
    place_clear_own identifier e =
        ap (λ (s : Spot). s.found)
        (lowest_none 32 (λ j. has_call (place_in (clear_of l i) j) identifier) (λ j k. clear_has j identifier ∙ go j k (eqb j i) refl))
      where
        first : WaitsFirst l identifier i
        first = place_of_exactly l identifier i e

        elsewhere : (j : ℕ) → j < 32 → (j ≡ i → ⊥) → (place_in l j).used ≡ true → (place_in l j).identifier ≡ identifier → ⊥
        elsewhere j k d v z =
            let w = passes shares l ok in
            ⊎_elim
            (λ m. w.alone i j first.inside m first.used v (first.same ∙ sym z))
            (λ m. w.alone j i k m v first.used (z ∙ sym first.same))
            (either j i d)

        go : (j : ℕ) → j < 32 → (b : Bool) → eqb j i ≡ b → cond b false (has_call (place_in l j) identifier) ≡ false
        go j k true t = refl
        go j k false t = has_not (place_in l j) identifier (elsewhere j k (eqb-false j i t))
