-- How a reading ends, combinator by combinator: a 4 has the first element along the bits that reaches past the length, and every length that
-- ends within this element gives the same; any other refusal has its number and nothing else. Assumes nothing.
use Prim.Native.Nat.{ℕ, ◌+◌, ◌≤◌, ◌<◌}
use mathlib.Core.Path.{◌≡◌, refl}
use mathlib.Core.Bool.{Bool, true, false, not, cond}
use mathlib.Core.List.{List, [], ◌∷◌, ◌++◌}
use mathlib.Core.Logic.{⊎_elim}
use native.Mathlib.Omega.{arith}
use lib.Dec.{eqb, leb}
use borrow.Author.Tests.{le-leb, lt-leb}
use Rattle.bits.specs.Fields.{field_at}
use Rattle.bits.proofs.SetLaws.{lt_or}
use Rattle.codec.specs.Stops.{short, refusal}
use Rattle.codec.specs.Codec.{Along, takes, asks, Read, got, no, bind, afterwards, Codec, number, guard}
use Rattle.codec.specs.Options.{Optional, absent, there}
use Rattle.codec.specs.Breaks.{Element, first_past}
use Rattle.codec.proofs.Good.{View, found, Came, Broken, Plain, Ended, came, failed, broke}

-- ---- one list along the bits after another

module _ (n : ℕ) (h : List Along) where
  pub past_none : (g : List Along) → first_past n g ≡ absent → first_past n (g ++ h) ≡ first_past n h
  unfolding first_past
  past_none [] e = refl
  past_none (asks c fails ∷ g) e = past_none g e
  past_none (takes e at w ∷ g) z = go (leb (at + w) n) (past_none g) z
    where
      here : Optional Element
      here = there (record { element = e; at = at; width = w })

      go : (b : Bool) → (first_past n g ≡ absent → first_past n (g ++ h) ≡ first_past n h) → cond b (first_past n g) here ≡ absent
          → cond b (first_past n (g ++ h)) here ≡ first_past n h
      go true rest y = rest y
      go false rest y = let z : ◌≡◌ {A = ℕ} 0 1 = cc in absurd (omega arith)

  pub past_some : (g : List Along) (x : Element) → first_past n g ≡ there x → first_past n (g ++ h) ≡ there x
  unfolding first_past
  past_some [] x e = let z : ◌≡◌ {A = ℕ} 0 1 = cc in absurd (omega arith)
  past_some (asks c fails ∷ g) x e = past_some g x e
  past_some (takes e at w ∷ g) x z = go (leb (at + w) n) (past_some g x) z
    where
      here : Optional Element
      here = there (record { element = e; at = at; width = w })

      go : (b : Bool) → (first_past n g ≡ there x → first_past n (g ++ h) ≡ there x) → cond b (first_past n g) here ≡ there x
          → cond b (first_past n (g ++ h)) here ≡ there x
      go true rest y = rest y
      go false rest y = y

-- ---- number

module _ (e w : ℕ) (f : ℕ → ℕ) (n at : ℕ) where
  short_ends : n < at + w → Broken (number e w) f n at (takes e at w ∷ []) (short e at)
  unfolding number short first_past
  short_ends h =
      record {
        width = w;
        four = refl;
        after = omega arith;
        within = λ k. k;
        past = h;
        first = rw (lt-leb (at + w) n h);
        same = λ m k i. rw (lt-leb (at + w) m i);
      }

  whole_ends : at + w ≤ n → Came (number e w) f n at (takes e at w ∷ []) (field_at f at w) (at + w)
  unfolding number first_past
  whole_ends h = record { after = omega arith; within = λ k. h; first = rw (le-leb (at + w) n h); same = λ m k. rw (le-leb (at + w) m k) }

  pub number_ended : Ended (number e w) f n at ((number e w).order f n at) ((number e w).read f n at)
  unfolding number
  number_ended =
      ⊎_elim
      (λ h. rw (lt-leb (at + w) n h) (broke (short e at) (short_ends h)))
      (λ h. rw (le-leb (at + w) n h) (came (field_at f at w) (at + w) (whole_ends h)))
      (lt_or n (at + w))

-- ---- a test

pub plain_refusal : (c : ℕ) → eqb c 4 ≡ false → Plain (refusal c)
unfolding refusal
plain_refusal c z = (z, refl)

module _ {A : Type 0} (c : ℕ) (test : A → Bool) (C : Codec A) (other : eqb c 4 ≡ false) (f : ℕ → ℕ) (n at : ℕ) (g : List Along) where
  pub guard_ended : (r : Read A) → Ended C f n at g r
      → Ended (guard c test C) f n at (g ++ afterwards r (λ a p. asks c (not (test a)) ∷ [])) (bind r (λ a p. cond (test a) (got a p) (no (refusal c))))
  unfolding first_past
  guard_ended (no s) (failed _ z) = failed s z
  guard_ended (no s) (broke _ b) =
      broke s
      (record {
        width = b.width;
        four = b.four;
        after = b.after;
        within = b.within;
        past = b.past;
        first = past_some n [] g _ b.first;
        same = λ m k i. rw (b.same m k i);
      })
  guard_ended (got a p) (came _ _ w) = go (test a) refl
    where
      first : (b : Bool) → first_past n (g ++ (asks c b ∷ [])) ≡ absent
      first b = rw (past_none n (asks c b ∷ []) g w.first)

      go : (b : Bool) → test a ≡ b → Ended (guard c test C) f n at (g ++ (asks c (not b) ∷ [])) (cond b (got a p) (no (refusal c)))
      go true z = came a p (record { after = w.after; within = w.within; first = first false; same = λ m k. rw (w.same m k, z) })
      go false z = failed (refusal c) (plain_refusal c other)

-- ---- the same reading of another type

module _ {A B : Type 0} (to : A → B) (C : Codec A) (D : Codec B) (f : ℕ → ℕ) (n at : ℕ) (g : List Along)
    (reads : (m : ℕ) → D.read f m at ≡ bind (C.read f m at) (λ a p. got (to a) p)) where
  pub map_ended : (r : Read A) → Ended C f n at g r → Ended D f n at g (bind r (λ a p. got (to a) p))
  map_ended (no s) (failed _ z) = failed s z
  map_ended (no s) (broke _ b) =
      broke s
      (record {
        width = b.width;
        four = b.four;
        after = b.after;
        within = b.within;
        past = b.past;
        first = b.first;
        same = λ m k i. rw (reads m, b.same m k i);
      })
  map_ended (got a p) (came _ _ w) =
      came (to a) p (record { after = w.after; within = w.within; first = w.first; same = λ m k. rw (reads m, w.same m k) })

-- ---- one reading after another: E reads what C reads, goes on with what that asks for, and puts both together

module _ {A B X : Type 0} (C : Codec A) (D : A → Codec B) (join : A → B → X) (E : Codec X) (f : ℕ → ℕ) (n at : ℕ) (g : List Along)
    (reads : (m : ℕ) → E.read f m at ≡ bind (C.read f m at) (λ a p. bind ((D a).read f m p) (λ b q. got (join a b) q))) where
  then_ended : (a : A) (p : ℕ) → Came C f n at g a p → (h : List Along) (r : Read B) → Ended (D a) f n p h r
      → Ended E f n at (g ++ h) (bind r (λ b q. got (join a b) q))
  then_ended a p w h (no s) (failed _ z) = failed s z
  then_ended a p w h (no s) (broke _ b) =
      broke s
      (record {
        width = b.width;
        four = b.four;
        after = omega (arith, w.after, b.after);
        within = λ k. b.within (w.within k);
        past = b.past;
        first = rw (past_none n h g w.first) b.first;
        same = λ m k i. rw (reads m, w.same m (omega (arith, k, b.after)), b.same m k i);
      })
  then_ended a p w h (got b q) (came _ _ v) =
      came (join a b) q
      (record {
        after = omega (arith, w.after, v.after);
        within = λ k. v.within (w.within k);
        first = rw (past_none n h g w.first) v.first;
        same = λ m k. rw (reads m, w.same m (omega (arith, k, v.after)), v.same m k);
      })

  pub seq_ended : (r : Read A) → Ended C f n at g r → View C f n at r → ((a : A) (p : ℕ) → C.ok a ≡ true → Ended (D a) f n p ((D a).order f n p) ((D a).read f n p))
      → Ended E f n at (g ++ afterwards r (λ a p. (D a).order f n p)) (bind r (λ a p. bind ((D a).read f n p) (λ b q. got (join a b) q)))
  seq_ended (no s) (failed _ z) v h = failed s z
  seq_ended (no s) (broke _ b) v h =
      broke s
      (record {
        width = b.width;
        four = b.four;
        after = b.after;
        within = b.within;
        past = b.past;
        first = past_some n [] g _ b.first;
        same = λ m k i. rw (reads m, b.same m k i);
      })
  seq_ended (got a p) (came _ _ w) (found _ _ v) h = then_ended a p w ((D a).order f n p) ((D a).read f n p) (h a p v.valid)
