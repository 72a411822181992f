-- A codec is a format: how a value is read from bits, the bits it is written as, and which values are valid. A message's codec is put
-- together from those of its elements by the combinators here, and the order of refusals is their nesting: `number` stops with 4
-- before the content of an element, `guard` with its own number right after it.
use Rattle.std.specs.Prelude.{ℕ, zero, suc, ◌+◌, ◌^◌, Bool, true, false, not, cond, List, [], ◌∷◌, ◌++◌, leb, ltb}
use Rattle.bits.specs.Fields.{field_at}
use Rattle.bits.specs.Puts.{binary}
use Rattle.codec.specs.Stops.{short, refusal, no_stop}
use Rattle.codec.specs.declared.Stop.{Stop}

-- ---- what stands along the bits

-- each in its turn: an element e of w bits that begins at position at (`takes e at w`), or a test of what was read, with its number of
-- document 01's table and whether it fails (`asks c fails`)
pub data Along : Type 0 where
  takes : ℕ → ℕ → ℕ → Along
  asks : ℕ → Bool → Along

-- ---- grounds for a refusal, first to last

-- a refusal, and whether its ground holds
abbrev pub Ground : Type 0
Ground = Stop × Bool

-- both hold; shut, so that a proof finds its two sides
unfoldable pub both : Bool → Bool → Bool
both true b = b
both false b = false

-- the refusal of the first ground that holds
unfoldable pub first_of : List Ground → Stop
first_of [] = no_stop
first_of ((s, holds) ∷ rest) = cond holds s (first_of rest)

-- no ground holds
unfoldable pub none_of : List Ground → Bool
none_of [] = true
none_of ((s, holds) ∷ rest) = both (not holds) (none_of rest)

-- what stands along n bits, as grounds: 4 with the element and where it begins, if it reaches past them; a test's own number
abbrev pub ground_of : ℕ → Along → Ground
ground_of n (takes e at w) = (short e at, not (leb (at + w) n))
ground_of n (asks c fails) = (refusal c, fails)

unfoldable pub grounds_of : ℕ → List Along → List Ground
grounds_of n [] = []
grounds_of n (x ∷ rest) = ground_of n x ∷ grounds_of n rest

-- ---- reading

-- a value and the next position, or a refusal
pub data Read (A : Type 0) : Type 0 where
  got : A → ℕ → Read A
  no : Stop → Read A

-- go on with the value and the position, or hand the refusal on
abbrev pub bind : {A B : Type 0} → Read A → (A → ℕ → Read B) → Read B
bind (got a p) k = k a p
bind (no s) k = no s

-- what stands after what was read, if something was
abbrev pub afterwards : {A B : Type 0} → Read A → (A → ℕ → List B) → List B
afterwards (got a p) k = k a p
afterwards (no s) k = []

-- ---- codecs

-- `read f n at` reads at position at of the bits f, of which there are n; `order f n at` is what stands along the bits as far as it reads:
-- each element in its turn, and after it its own test
pub record Codec (A : Type 0) : Type 1 where
  pub read : (ℕ → ℕ) → ℕ → ℕ → Read A
  pub order : (ℕ → ℕ) → ℕ → ℕ → List Along
  pub bits : A → List ℕ
  pub ok : A → Bool

-- the element e, a number of w bits: 4 where it reaches past the end
unfoldable pub number : ℕ → ℕ → Codec ℕ
number e w =
    record {
      read = λ f n at. cond (leb (at + w) n) (got (field_at f at w) (at + w)) (no (short e at));
      order = λ f n at. takes e at w ∷ [];
      bits = λ v. binary w v;
      ok = λ v. ltb v (2 ^ w);
    }

-- nothing on the air: the value is a, and `same` is the test for it
abbrev pub pure : {A : Type 0} → A → (A → Bool) → Codec A
pure a same = record { read = λ f n at. got a at; order = λ f n at. []; bits = λ b. []; ok = λ b. same b }

-- C, refused with c where the test fails
abbrev pub guard : {A : Type 0} → ℕ → (A → Bool) → Codec A → Codec A
guard c test C =
    record {
      read = λ f n at. bind (C.read f n at) (λ a p. cond (test a) (got a p) (no (refusal c)));
      order = λ f n at. C.order f n at ++ afterwards (C.read f n at) (λ a p. asks c (not (test a)) ∷ []);
      bits = λ a. C.bits a;
      ok = λ a. both (C.ok a) (test a);
    }

-- C, then the codec that its value asks for
abbrev pub seq : {A B : Type 0} → Codec A → (A → Codec B) → Codec (A × B)
seq C D =
    record {
      read = λ f n at. bind (C.read f n at) (λ a p. bind ((D a).read f n p) (λ b q. got (a, b) q));
      order = λ f n at. C.order f n at ++ afterwards (C.read f n at) (λ a p. (D a).order f n p);
      bits = λ x. C.bits x.0 ++ (D x.0).bits x.1;
      ok = λ x. both (C.ok x.0) ((D x.0).ok x.1);
    }

-- the same bits as values of another type; `just` is the test that all that C doesn't carry is zero
abbrev pub map : {A B : Type 0} → (A → B) → (B → A) → (B → Bool) → Codec A → Codec B
map to from just C =
    record {
      read = λ f n at. bind (C.read f n at) (λ a p. got (to a) p);
      order = λ f n at. C.order f n at;
      bits = λ b. C.bits (from b);
      ok = λ b. both (just b) (C.ok (from b));
    }

-- C or D, by what was read before
abbrev pub choose : {A : Type 0} → Bool → Codec A → Codec A → Codec A
choose true C D = C
choose false C D = D

-- k values of C, one after the other
module _ {A : Type 0} (C : Codec A) where
  abbrev pub vec_then : (ℕ → Read (List A)) → Read A → Read (List A)
  vec_then rest r = bind r (λ a p. bind (rest p) (λ xs q. got (a ∷ xs) q))

  unfoldable pub vec_read : ℕ → (ℕ → ℕ) → ℕ → ℕ → Read (List A)
  vec_read zero f n at = got [] at
  vec_read (suc k) f n at = vec_then (vec_read k f n) (C.read f n at)

  unfoldable pub vec_order : ℕ → (ℕ → ℕ) → ℕ → ℕ → List Along
  vec_order zero f n at = []
  vec_order (suc k) f n at = C.order f n at ++ afterwards (C.read f n at) (λ a p. vec_order k f n p)

  abbrev pub vec_bits : List A → List ℕ
  vec_bits [] = []
  vec_bits (a ∷ xs) = C.bits a ++ vec_bits xs

  abbrev pub vec_ok : ℕ → List A → Bool
  vec_ok zero [] = true
  vec_ok zero (a ∷ xs) = false
  vec_ok (suc k) [] = false
  vec_ok (suc k) (a ∷ xs) = both (C.ok a) (vec_ok k xs)

abbrev pub vec : {A : Type 0} → ℕ → Codec A → Codec (List A)
vec k C = record { read = λ f n at. vec_read C k f n at; order = λ f n at. vec_order C k f n at; bits = λ xs. vec_bits C xs; ok = λ xs. vec_ok C k xs }
