-- Laws of bits and fields, each over any width. Assumes nothing.
use Prim.Native.Nat.{ℕ, zero, suc, ◌+◌, ◌-◌, ◌*◌, ◌/◌, ◌%◌, ◌^◌, ◌≤◌, ◌<◌}
use mathlib.Core.Path.{◌≡◌, refl}
use mathlib.Core.List.{List}
use native.Mathlib.Nat.{mod-lt, pow-suc, pow-zero, zero-lt-suc, lt_of_lt_of_le, add-zero, add-suc, add_assoc, add-mul, mul_assoc, mul-one, zero-div}
use native.Mathlib.Omega.{arith}
use lib.ListN.{length, get_or, get_or-eq_default}
use lib.Pow.{pow_mono, high}
use borrow.Author.Tests.{le-leb, lt-leb}
use Rattle.bits.specs.Fields.{bit_at, field_at, field_of, eight_of}

pub bit_lt : (l : List ℕ) (i : ℕ) → bit_at l i < 2
unfolding bit_at
bit_lt l i = mod-lt _ (zero-lt-suc 1)

-- a number read from w bits is below 2 ^ w
pub field_lt : (f : ℕ → ℕ) → ((i : ℕ) → f i < 2) → (at w : ℕ) → field_at f at w < 2 ^ w
unfolding field_at
field_lt f h at zero = omega arith
field_lt f h at (suc w) = rw pow-suc (omega (arith, h (at + w), field_lt f h at w))

-- and so below any higher power
pub field_below : (n : ℕ) (l : List ℕ) (at w : ℕ) → w ≤ n → field_at (bit_at l) at w < 2 ^ n
field_below n l at w h = lt_of_lt_of_le (field_lt (bit_at l) (bit_lt l) at w) (pow_mono h)

-- a field of m + n bits is one of m bits, then one of n
pub field_split : (f : ℕ → ℕ) (at m n : ℕ) → field_at f at (m + n) ≡ field_at f at m * 2 ^ n + field_at f (at + m) n
unfolding field_at
field_split f at m zero = rw (add-zero, pow-zero, mul-one, add-zero)
field_split f at m (suc n) =
    let ih = field_split f at m n in
    rw (add-suc, ih, pow-suc, ← mul_assoc, add-mul, add_assoc (field_at f at m * 2 ^ n * 2), add_assoc)

-- the first m bits of a field of m + n
pub field_front : (f : ℕ → ℕ) → ((i : ℕ) → f i < 2) → (at m n : ℕ) → field_at f at (m + n) / 2 ^ n ≡ field_at f at m
field_front f h at m n = rw field_split (high (field_at f at m) n (field_lt f h (at + m) n))

-- a field depends on its own bits alone
pub field_same : (f g : ℕ → ℕ) (at w : ℕ) → ((i : ℕ) → at ≤ i → i < at + w → f i ≡ g i) → field_at f at w ≡ field_at g at w
unfolding field_at
field_same f g at zero e = refl
field_same f g at (suc w) e = rw (field_same f g at w (λ i h k. e i h (omega arith)), e (at + w) (omega arith) (omega arith))

-- past the end every bit is 0, and so is every field
bit_past : (l : List ℕ) (i : ℕ) → 8 * length l ≤ i → bit_at l i ≡ 0
unfolding bit_at
bit_past l i h =
    let d : get_or l (i / 8) 0 ≡ 0 = get_or-eq_default l 0 {n = i / 8} (omega arith) in
    let z : 0 / 2 ^ (7 - i % 8) ≡ 0 = zero-div (2 ^ (7 - i % 8)) in
    rw (d, z)

pub field_past : (l : List ℕ) (at w : ℕ) → 8 * length l ≤ at → field_at (bit_at l) at w ≡ 0
unfolding field_at
field_past l at zero h = refl
field_past l at (suc w) h = rw (field_past l at w h, bit_past l (at + w) (omega arith))

-- what the code's definition says, by the width
pub field_is : (l : List ℕ) (at w : ℕ) → w ≤ 64 → field_of l at w ≡ field_at (bit_at l) at w
unfolding field_of
field_is l at w h = rw (le-leb w 64 h)

pub field_wide : (l : List ℕ) (at w : ℕ) → 64 < w → field_of l at w ≡ 0
unfolding field_of
field_wide l at w h = rw (lt-leb w 64 h)

pub field_none : (l : List ℕ) (at w : ℕ) → w ≡ 0 → field_of l at w ≡ 0
unfolding field_at
field_none l at w e = rw e (field_is l at 0 (omega arith))

-- ---- eight bytes

pub eight_there : (l : List ℕ) (i : ℕ) → i + 8 ≤ length l → eight_of l i ≡ field_at (bit_at l) (8 * i) 64
unfolding eight_of
eight_there l i h = rw (le-leb (i + 8) (length l) h)

pub eight_not : (l : List ℕ) (i : ℕ) → length l < i + 8 → eight_of l i ≡ 0
unfolding eight_of
eight_not l i h = rw (lt-leb (i + 8) (length l) h)
