-- The lowest number that passes a test, the lowest free place, and the place where a call waits. Assumes nothing.
use Prim.Native.Nat.{ℕ, zero, suc, ◌+◌, ◌<◌, ◌≤◌}
use mathlib.Core.Path.{◌≡◌, refl, sym, ◌∙◌, ap, subst}
use mathlib.Core.Bool.{Bool, true, false, not, cond}
use mathlib.Core.List.{List}
use mathlib.Core.Logic.{⊎_elim}
use native.Mathlib.Nat.{eq-or-lt_of_le}
use native.Mathlib.Omega.{arith}
use lib.Dec.{ltb}
use borrow.Author.Tests.{lt-ltb, eqb-true, eq-eqb, not-true, not-false}
use Rattle.codec.proofs.Good.{both_true, both_left, both_right, not_both}
use Rattle.places.specs.Held.{place_in}
use Rattle.places.specs.Spots.{no_spot, spot_at, lowest_from, lowest, has_call, place_of, lowest_free, number_in, spot_of}
use Rattle.places.specs.declared.Place.{Place}
use Rattle.places.specs.declared.Spot.{Spot}

-- ---- the lowest that passes

-- i passes the test, and no lower number does
pub record FoundAt (n : ℕ) (test : ℕ → Bool) (i : ℕ) : Type 0 where
  pub inside : i < n
  pub passes : test i ≡ true
  pub before : (j : ℕ) → j < i → test j ≡ false

abbrev pub NoneBelow : ℕ → (ℕ → Bool) → Type 0
NoneBelow n test = (j : ℕ) → j < n → test j ≡ false

-- from i on: i itself or a higher one

from_none : (n i : ℕ) (test : ℕ → Bool) → ((j : ℕ) → i ≤ j → j < i + n → test j ≡ false) → lowest_from n i test ≡ no_spot
unfolding lowest_from
from_none zero i test h = refl
from_none (suc n) i test h = rw (h i (omega arith) (omega arith)) (from_none n (suc i) test (λ j k l. h j (omega arith) (omega arith)))

from_found : (n i k : ℕ) (test : ℕ → Bool) → i ≤ k → k < i + n → test k ≡ true → ((j : ℕ) → i ≤ j → j < k → test j ≡ false)
    → lowest_from n i test ≡ spot_at k
unfolding lowest_from
from_found zero i k test l h e b = absurd (omega arith)
from_found (suc n) i k test l h e b =
    ⊎_elim
    (λ d. rw (subst (λ (x : ℕ). test x ≡ true) (sym d) e) (ap (λ (x : ℕ). spot_at x) d))
    (λ m. rw (b i (omega arith) m) (from_found n (suc i) k test m (omega arith) e (λ j p q. b j (omega arith) q)))
    (eq-or-lt_of_le l)

from_no : (n i : ℕ) (test : ℕ → Bool) → (lowest_from n i test).found ≡ false → (j : ℕ) → i ≤ j → j < i + n → test j ≡ false
unfolding lowest_from
from_no zero i test e j k l = absurd (omega arith)
from_no (suc n) i test e j k l = go (test i) refl e (λ f m. from_no n (suc i) test f j m (omega arith))
  where
    go : (b : Bool) → test i ≡ b → (cond b (spot_at i) (lowest_from n (suc i) test)).found ≡ false
        → ((lowest_from n (suc i) test).found ≡ false → suc i ≤ j → test j ≡ false) → test j ≡ false
    go true t f ih = not_both (sym f)
    go false t f ih = ⊎_elim (λ d. subst (λ (x : ℕ). test x ≡ false) d t) (λ m. ih f m) (eq-or-lt_of_le k)

record FoundFrom (n i : ℕ) (test : ℕ → Bool) (k : ℕ) : Type 0 where
  pub low : i ≤ k
  pub high : k < i + n
  pub yes : test k ≡ true
  pub none : (j : ℕ) → i ≤ j → j < k → test j ≡ false

from_at : (n i : ℕ) (test : ℕ → Bool) → (lowest_from n i test).found ≡ true → FoundFrom n i test (lowest_from n i test).place
unfolding lowest_from
from_at zero i test e = not_both e
from_at (suc n) i test e = go (test i) refl e (λ f. from_at n (suc i) test f)
  where
    go : (b : Bool) → test i ≡ b → (cond b (spot_at i) (lowest_from n (suc i) test)).found ≡ true
        → ((lowest_from n (suc i) test).found ≡ true → FoundFrom n (suc i) test (lowest_from n (suc i) test).place)
        → FoundFrom (suc n) i test (cond b (spot_at i) (lowest_from n (suc i) test)).place
    go true t f ih = record { low = omega arith; high = omega arith; yes = t; none = λ j k l. absurd (omega arith) }
    go false t f ih =
        let w = ih f in
        let a = w.low in
        let z = w.high in
        record {
          low = omega arith;
          high = omega arith;
          yes = w.yes;
          none = λ j k l. ⊎_elim (λ d. subst (λ (x : ℕ). test x ≡ false) d t) (λ m. w.none j m l) (eq-or-lt_of_le k);
        }

from_same : (n i : ℕ) (s t : ℕ → Bool) → ((j : ℕ) → j < i + n → s j ≡ t j) → lowest_from n i s ≡ lowest_from n i t
unfolding lowest_from
from_same zero i s t e = refl
from_same (suc n) i s t e = rw (e i (omega arith), from_same n (suc i) s t (λ j l. e j (omega arith)))

pub lowest_same : (n : ℕ) (s t : ℕ → Bool) → ((j : ℕ) → j < n → s j ≡ t j) → lowest n s ≡ lowest n t
lowest_same n s t e = from_same n 0 s t (λ j l. e j (omega arith))

pub lowest_none : (n : ℕ) (test : ℕ → Bool) → NoneBelow n test → lowest n test ≡ no_spot
lowest_none n test h = from_none n 0 test (λ j k l. h j (omega arith))

pub lowest_found : (n i : ℕ) (test : ℕ → Bool) → FoundAt n test i → lowest n test ≡ spot_at i
lowest_found n i test f =
    let h = f.inside in
    from_found n 0 i test (omega arith) (omega arith) f.passes (λ j k l. f.before j l)

pub lowest_no : (n : ℕ) (test : ℕ → Bool) → (lowest n test).found ≡ false → NoneBelow n test
lowest_no n test e j l = from_no n 0 test e j (omega arith) (omega arith)

pub lowest_at : (n : ℕ) (test : ℕ → Bool) → (lowest n test).found ≡ true → FoundAt n test (lowest n test).place
lowest_at n test e =
    let w = from_at n 0 test e in
    let h = w.high in
    record { inside = omega arith; passes = w.yes; before = λ j l. w.none j (omega arith) l }

-- a spot that is found is that of its number; none is always the same
pub spot_found : (s : Spot) → s.found ≡ true → s ≡ spot_at s.place
spot_found s e = ap (λ (b : Bool). record { found = b; place = s.place }) e

pub lowest_nothing : (n : ℕ) (test : ℕ → Bool) → (lowest n test).found ≡ false → lowest n test ≡ no_spot
lowest_nothing n test e = lowest_none n test (lowest_no n test e)

-- ---- the number of a spot, as a search yields it, and back

pub spot_back : (test : ℕ → Bool) → spot_of (number_in (lowest 32 test)) ≡ lowest 32 test
unfolding spot_of
spot_back test = go (lowest 32 test).found refl
  where
    go : (b : Bool) → (lowest 32 test).found ≡ b → cond (ltb (number_in (lowest 32 test)) 32) (spot_at (number_in (lowest 32 test))) no_spot ≡ lowest 32 test
    go true e =
        let w = lowest_at 32 test e in
        rw (e, lt-ltb (lowest 32 test).place 32 w.inside)
    go false e = rw (lowest_nothing 32 test e)

-- ---- the lowest free place

module _ (l : List Place) where
  -- place i is free, and every lower one is used
  pub record FreeFirst (i : ℕ) : Type 0 where
    pub inside : i < 32
    pub free : (place_in l i).used ≡ false
    pub lower : (j : ℕ) → j < i → (place_in l j).used ≡ true

  pub lowest_free_exactly : (i : ℕ) → lowest_free l ≡ spot_at i → FreeFirst i
  unfolding lowest_free
  lowest_free_exactly i e =
      let w = lowest_at 32 (λ i. not (place_in l i).used) (ap (λ (s : Spot). s.found) e) in
      let f : FoundAt 32 (λ i. not (place_in l i).used) i = rw e at w in
      record { inside = f.inside; free = not-true _ f.passes; lower = λ j k. not-false _ (f.before j k) }

  pub none_free_exactly : (lowest_free l).found ≡ false → (j : ℕ) → j < 32 → (place_in l j).used ≡ true
  unfolding lowest_free
  none_free_exactly e j k = not-false _ (lowest_no 32 (λ i. not (place_in l i).used) e j k)

  -- ---- the place where a call waits

  pub has_call_lem : (i identifier : ℕ) → (place_in l i).used ≡ true → (place_in l i).identifier ≡ identifier → has_call (place_in l i) identifier ≡ true
  unfolding has_call
  has_call_lem i identifier u e = both_true _ _ u (eq-eqb _ _ e)

  -- the call waits at place i, and at no lower one
  pub record WaitsFirst (identifier i : ℕ) : Type 0 where
    pub inside : i < 32
    pub used : (place_in l i).used ≡ true
    pub same : (place_in l i).identifier ≡ identifier
    pub lower : (j : ℕ) → j < i → has_call (place_in l j) identifier ≡ false

  pub place_of_exactly : (identifier i : ℕ) → place_of l identifier ≡ spot_at i → WaitsFirst identifier i
  unfolding place_of has_call
  place_of_exactly identifier i e =
      let w = lowest_at 32 (λ i. has_call (place_in l i) identifier) (ap (λ (s : Spot). s.found) e) in
      let f : FoundAt 32 (λ i. has_call (place_in l i) identifier) i = rw e at w in
      record {
        inside = f.inside;
        used = both_left _ _ f.passes;
        same = eqb-true _ _ (both_right (place_in l i).used _ f.passes);
        lower = f.before;
      }

  pub no_place_exactly : (identifier : ℕ) → (place_of l identifier).found ≡ false
      → (j : ℕ) → j < 32 → (place_in l j).used ≡ true → (place_in l j).identifier ≡ identifier → ⊥
  unfolding place_of
  no_place_exactly identifier e j k u d =
      not_both (sym (lowest_no 32 (λ i. has_call (place_in l i) identifier) e j k) ∙ has_call_lem j identifier u d)
