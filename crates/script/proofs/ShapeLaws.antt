-- The shape of a line, byte by byte as the code's loops take it: at each turn, what is left of the definition. Assumes nothing.
use Prim.Native.Nat.{ℕ, suc, ◌+◌, ◌-◌, ◌*◌, ◌≤◌, ◌<◌, ◌^◌}
use mathlib.Core.Path.{◌≡◌, refl, sym}
use mathlib.Core.Bool.{Bool, true, false, ◌&&◌}
use mathlib.Core.List.{List, [], ◌∷◌}
use native.Mathlib.Nat.{pow-le-pow_right, lt_of_lt_of_le}
use native.Mathlib.Numerals.{add-one}
use native.Mathlib.Omega.{arith}
use lib.Dec.{eqb}
use lib.ListN.{length, get_or, take, drop, set, drop_of_length-le}
use lib.Pointwise.{pointwise}
use lib.Seq.{drop-cons}
use borrow.Author.Tests.{eq-eqb, ne_eqb, eqb-true, eqb-false, lt-ltb, le-ltb, le-leb, lt-leb}
use Rattle.std.specs.Prelude.{Some, None}
use Rattle.codec.specs.Codec.{both}
use Rattle.lines.specs.Shape.{is_digit, hex_of}
use Rattle.script.specs.Shape.{starts_with, number_if, digits_then, number_at, no_numbers, numbers_from}
use Rattle.script.specs.declared.shape.Number.{Number}

-- ---- one byte more of a list

module _ (l : List ℕ) (i : ℕ) (h : i < length l) where
  pub next_byte : drop i l ≡ get_or l i 0 ∷ drop (i + 1) l
  next_byte = rw (add-one, drop-cons l i 0 h)

-- ---- a keyword

-- the library's test, which looks at the keyword's bytes first
pub starts_same : (l w : List ℕ) → pointwise eqb w (take (length w) l) ≡ starts_with l w
unfolding starts_with both
starts_same l [] = refl
starts_same [] (x ∷ w) = refl
starts_same (b ∷ l) (x ∷ w) = rw (eqb_turn x b, starts_same l w) (both_and (eqb b x) (starts_with l w))
  where
    eqb_turn : (x y : ℕ) → eqb x y ≡ eqb y x
    eqb_turn x y = turn (eqb x y) refl
      where
        turn : (t : Bool) → eqb x y ≡ t → t ≡ eqb y x
        turn true e = sym (eq-eqb y x (sym (eqb-true x y e)))
        turn false e = sym (ne_eqb y x (λ q. eqb-false x y e (sym q)))

    both_and : (p q : Bool) → p && q ≡ both p q
    both_and true q = refl
    both_and false q = refl

-- ---- a number

pub number_few : (seen value : ℕ) → value < 10 ^ seen → seen ≤ 10 → value < 10000000000
number_few seen value h k = lt_of_lt_of_le h (pow-le-pow_right {n = 10} (omega arith) {i = seen} {j = 10} k)

module _ (l : List ℕ) (i seen value : ℕ) where
  pub number_end : length l ≤ i → digits_then i seen value (drop i l) ≡ number_if seen value i
  unfolding digits_then
  number_end h = rw (drop_of_length-le l h)

  module _ (h : i < length l) where
    pub number_stop : is_digit (get_or l i 0) ≡ false → digits_then i seen value (drop i l) ≡ number_if seen value i
    unfolding digits_then
    number_stop e = rw (next_byte l i h, e)

    pub number_many : is_digit (get_or l i 0) ≡ true → 10 ≤ seen → digits_then i seen value (drop i l) ≡ None
    unfolding digits_then
    number_many e k = rw (next_byte l i h, e, le-ltb seen 10 k)

    pub number_more : is_digit (get_or l i 0) ≡ true → seen < 10
        → digits_then i seen value (drop i l) ≡ digits_then (i + 1) (seen + 1) (value * 10 + hex_of (get_or l i 0)) (drop (i + 1) l)
    unfolding digits_then
    number_more e k = rw (next_byte l i h, e, lt-ltb seen 10 k, ← add-one i, ← add-one seen)

-- ---- a row of numbers

module _ (most n : ℕ) (row l : List ℕ) (at : ℕ) where
  pub row_full : n ≡ most → numbers_from (most - n) n row l at ≡ record { count = most; next = at; number = row }
  unfolding numbers_from
  row_full e = let z : most - n ≡ 0 = omega arith in rw (z, e)

  module _ (h : n < most) where
    one_less : most - n ≡ suc (most - (n + 1))
    one_less = omega arith

    pub row_none : number_at l at ≡ None → numbers_from (most - n) n row l at ≡ no_numbers
    unfolding numbers_from
    row_none e = rw (one_less, e)

    module _ (d : Number) (is : number_at l at ≡ Some d) where
      pub row_end : length l ≤ d.next → numbers_from (most - n) n row l at ≡ record { count = n + 1; next = 0; number = set row n d.value }
      unfolding numbers_from
      row_end k = rw (one_less, is, le-leb _ _ k)

      module _ (k : d.next < length l) where
        pub row_other : (get_or l d.next 0 ≡ 32 → ⊥) → numbers_from (most - n) n row l at ≡ no_numbers
        unfolding numbers_from
        row_other e = rw (one_less, is, lt-leb _ _ k, ne_eqb _ _ e)

        pub row_more : get_or l d.next 0 ≡ 32 → numbers_from (most - n) n row l at ≡ numbers_from (most - (n + 1)) (n + 1) (set row n d.value) l (d.next + 1)
        unfolding numbers_from
        row_more e = rw (one_less, is, lt-leb _ _ k, eq-eqb _ _ e)
