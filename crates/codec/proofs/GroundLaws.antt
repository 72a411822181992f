-- Grounds one after the other, and what they tell of a reading. Assumes nothing.
use Prim.Native.Nat.{ℕ}
use mathlib.Core.Path.{◌≡◌, refl, sym, ap, ◌∙◌, subst}
use mathlib.Core.Bool.{Bool, true, false, not, cond}
use mathlib.Core.List.{List, [], ◌∷◌, ◌++◌}
use Rattle.codec.specs.Stops.{refusal}
use Rattle.codec.specs.Codec.{Along, asks, Ground, both, first_of, none_of, ground_of, grounds_of, Read, got, no, bind, afterwards}
use Rattle.codec.proofs.Good.{not_both, Told}

-- ---- one list after another

module _ (h : List Ground) where
  -- where none of the first holds, the second speaks
  pub none_join : (g : List Ground) → none_of g ≡ true → (none_of (g ++ h) ≡ none_of h) × (first_of (g ++ h) ≡ first_of h)
  unfolding none_of first_of both
  none_join [] e = (refl, refl)
  none_join ((s, true) ∷ g) e = not_both e
  none_join ((s, false) ∷ g) e = none_join g e

  -- where one of the first holds, it does
  pub some_join : (g : List Ground) → none_of g ≡ false → (none_of (g ++ h) ≡ false) × (first_of (g ++ h) ≡ first_of g)
  unfolding none_of first_of both
  some_join [] e = not_both (sym e)
  some_join ((s, true) ∷ g) e = (refl, refl)
  some_join ((s, false) ∷ g) e = some_join g e

told_join : {A : Type 0} (g h : List Ground) (r : Read A) → none_of g ≡ true → Told h r → Told (g ++ h) r
told_join g h (got a p) e t = (none_join h g e).0 ∙ t
told_join g h (no s) e t = ((none_join h g e).0 ∙ t.0, (none_join h g e).1 ∙ t.1)

-- ---- one reading after another

grounds_join : (n : ℕ) (g h : List Along) → grounds_of n (g ++ h) ≡ grounds_of n g ++ grounds_of n h
unfolding grounds_of
grounds_join n [] h = refl
grounds_join n (x ∷ g) h = ap (λ (l : List Ground). ground_of n x ∷ l) (grounds_join n g h)

module _ {A B : Type 0} (n : ℕ) (g : List Along) (k : A → ℕ → Read B) (h : A → ℕ → List Along) where
  pub told_then : (r : Read A) → Told (grounds_of n g) r → ((a : A) (p : ℕ) → r ≡ got a p → Told (grounds_of n (h a p)) (k a p))
      → Told (grounds_of n (g ++ afterwards r h)) (bind r k)
  told_then (got a p) t w =
      subst (λ (l : List Ground). Told l (k a p)) (sym (grounds_join n g (h a p))) (told_join (grounds_of n g) (grounds_of n (h a p)) (k a p) t (w a p refl))
  told_then (no s) t w =
      subst (λ (l : List Ground). Told {A = B} l (no s)) (sym (grounds_join n g []))
      ((some_join (grounds_of n []) (grounds_of n g) t.0).0, (some_join (grounds_of n []) (grounds_of n g) t.0).1 ∙ t.1)

-- the same reading of another type
pub told_map : {A B : Type 0} (g : List Ground) (to : A → B) (r : Read A) → Told g r → Told g (bind r (λ a p. got (to a) p))
told_map g to (got a p) t = t
told_map g to (no s) t = t

-- one test
pub told_test : {A : Type 0} (n c : ℕ) (b : Bool) (a : A) (p : ℕ) → Told {A = A} (grounds_of n (asks c (not b) ∷ [])) (cond b (got a p) (no (refusal c)))
unfolding grounds_of none_of first_of both
told_test n c true a p = refl
told_test n c false a p = (refl, refl)
