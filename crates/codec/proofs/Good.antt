-- What makes a codec a good one, and the laws of `both`. Assumes nothing.
use Prim.Native.Nat.{ℕ, ◌+◌, ◌≤◌, ◌<◌}
use mathlib.Core.Path.{◌≡◌, refl}
use mathlib.Core.Bool.{Bool, true, false}
use mathlib.Core.List.{List}
use native.Mathlib.Omega.{arith}
use lib.Dec.{eqb}
use lib.ListN.{length}
use Rattle.bits.proofs.Stands.{AreBits, Stands}
use Rattle.codec.specs.Stops.{refusal}
use Rattle.codec.specs.Codec.{Along, Ground, first_of, none_of, grounds_of, Read, got, no, both, Codec}
use Rattle.codec.specs.Options.{absent, there}
use Rattle.codec.specs.Breaks.{first_past}
use Rattle.codec.specs.declared.Stop.{Stop}

-- ---- both

pub both_true : (a b : Bool) → a ≡ true → b ≡ true → both a b ≡ true
unfolding both
both_true a b e d = rw (e, d)

pub both_left : (a b : Bool) → both a b ≡ true → a ≡ true
unfolding both
both_left true b e = refl
both_left false b e = e

pub both_right : (a b : Bool) → both a b ≡ true → b ≡ true
unfolding both
both_right true b e = e
both_right false b e = let z : ◌≡◌ {A = ℕ} 0 1 = cc in absurd (omega arith)

pub both_none : (a : Bool) → both a false ≡ false
unfolding both
both_none true = refl
both_none false = refl

pub not_both : {A : Type 0} → false ≡ true → A
not_both e = let z : ◌≡◌ {A = ℕ} 0 1 = cc in absurd (omega arith)

-- ---- good codecs

-- each bit is 0 or 1
abbrev pub Binary : (ℕ → ℕ) → Type 0
Binary f = (i : ℕ) → f i < 2

-- the first n bits are the same
abbrev pub Agree : (ℕ → ℕ) → (ℕ → ℕ) → ℕ → Type 0
Agree f g n = (i : ℕ) → i < n → f i ≡ g i

-- the value a was rightly found at position at, up to position p: it is valid, its bits stand there, and no more than n was read
pub record Found {A : Type 0} (C : Codec A) (f : ℕ → ℕ) (n at : ℕ) (a : A) (p : ℕ) : Type 0 where
  pub valid : C.ok a ≡ true
  pub next : p ≡ at + length (C.bits a)
  pub within : at ≤ n → p ≤ n
  pub stands : Stands f at (C.bits a)

-- what a reading may answer
pub data View {A : Type 0} (C : Codec A) (f : ℕ → ℕ) (n at : ℕ) : Read A → Type 0 where
  refused : (s : Stop) → View C f n at (no s)
  found : (a : A) (p : ℕ) → Found C f n at a p → View C f n at (got a p)

-- the grounds g are those of what a reading answered: none holds where something was read, and else the first gives the refusal
abbrev pub Told : {A : Type 0} → List Ground → Read A → Type 0
Told g (got a p) = none_of g ≡ true
Told g (no s) = (none_of g ≡ false) × (first_of g ≡ s)

-- a value came: no element reached past the length, and every length that has all that was read gives the same
pub record Came {A : Type 0} (C : Codec A) (f : ℕ → ℕ) (n at : ℕ) (g : List Along) (a : A) (p : ℕ) : Type 0 where
  pub after : at ≤ p
  pub within : at ≤ n → p ≤ n
  pub first : first_past n g ≡ absent
  pub same : (m : ℕ) → p ≤ m → C.read f m at ≡ got a p

-- it broke off: the refusal is a 4 with the first element that reaches past the length, and every length that ends within this element
-- gives the same
pub record Broken {A : Type 0} (C : Codec A) (f : ℕ → ℕ) (n at : ℕ) (g : List Along) (s : Stop) : Type 0 where
  pub width : ℕ
  pub four : s.number ≡ 4
  pub after : at ≤ s.at
  pub within : at ≤ n → s.at ≤ n
  pub past : n < s.at + width
  pub first : first_past n g ≡ there (record { element = s.element; at = s.at; width = width })
  pub same : (m : ℕ) → s.at ≤ m → m < s.at + width → C.read f m at ≡ no s

-- any other refusal has its number and nothing else
abbrev pub Plain : Stop → Type 0
Plain s = (eqb s.number 4 ≡ false) × (s ≡ refusal s.number)

-- how a reading ended, with what stood along the bits
pub data Ended {A : Type 0} (C : Codec A) (f : ℕ → ℕ) (n at : ℕ) (g : List Along) : Read A → Type 0 where
  came : (a : A) (p : ℕ) → Came C f n at g a p → Ended C f n at g (got a p)
  failed : (s : Stop) → Plain s → Ended C f n at g (no s)
  broke : (s : Stop) → Broken C f n at g s → Ended C f n at g (no s)

pub record Good {A : Type 0} (C : Codec A) : Type 0 where
  -- a valid value is written as bits
  pub are_bits : (a : A) → C.ok a ≡ true → AreBits (C.bits a)
  -- where a valid value's bits stand, it is read
  pub forward : (f : ℕ → ℕ) (n at : ℕ) (a : A) → C.ok a ≡ true → Stands f at (C.bits a) → at + length (C.bits a) ≤ n
      → C.read f n at ≡ got a (at + length (C.bits a))
  -- what is read was rightly found
  pub backward : (f : ℕ → ℕ) (n : ℕ) → Binary f → (at : ℕ) → View C f n at (C.read f n at)
  -- bits from n on are never looked at
  pub alike : (f g : ℕ → ℕ) (n at : ℕ) → Binary f → Agree f g n → C.read f n at ≡ C.read g n at
  -- a refusal comes exactly on the first ground that holds, along the bits
  pub told : (f : ℕ → ℕ) (n : ℕ) → Binary f → (at : ℕ) → Told (grounds_of n (C.order f n at)) (C.read f n at)
  -- a 4 has the first element that reaches past the length, and any other refusal nothing
  pub ended : (f : ℕ → ℕ) (n : ℕ) → Binary f → (at : ℕ) → Ended C f n at (C.order f n at) (C.read f n at)
