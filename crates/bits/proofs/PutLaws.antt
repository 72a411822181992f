-- Laws of written bits: a byte stays a byte, a list keeps its length, a run of bits is written one after the other, and where
-- nothing can be put. Assumes nothing.
use Prim.Native.Nat.{ℕ, zero, suc, ◌+◌, ◌-◌, ◌*◌, ◌/◌, ◌%◌, ◌^◌, ◌≤◌, ◌<◌}
use mathlib.Core.Path.{◌≡◌, refl, sym, ap, ◌∙◌}
use mathlib.Core.List.{List, [], ◌∷◌, ◌++◌}
use native.Mathlib.Nat.{one-mul, mod-eq_of_lt, mod-lt, pow-suc, div-one, suc-add, add-suc, add-zero}
use native.Mathlib.Numerals.{add-one}
use native.Mathlib.Omega.{arith}
use lib.Arith.{digits_lt}
use lib.ListN.{length, length-append, length-set, set, get_or}
use lib.Pow.{pow-add, pow-lt, pow_pos, shr_lt, shr-shr}
use borrow.Author.Tests.{le-leb, lt-leb}
use Rattle.bits.specs.Puts.{with_digit, set_bit, put_bits, binary, can_put, put_of, spare, pad_of}

-- ---- one digit of a byte

digit_lt : (j k : ℕ) {x b : ℕ} → x < 2 ^ (suc j + k) → b < 2 → with_digit x k b < 2 ^ (suc j + k)
unfolding with_digit
digit_lt j k {x} {b} hx hb =
    let q : x / 2 ^ k < 2 ^ suc j = shr_lt (suc j) k hx in
    let q' : x / 2 ^ k < 2 ^ j * 2 = rw pow-suc at q in
    let m : x / 2 ^ k / 2 * 2 + b < 2 ^ suc j = rw pow-suc (omega (arith, q', hb)) in
    rw (pow-add 2 (suc j) k) (digits_lt m (mod-lt x (pow_pos k)))

-- 2 ^ k, as the code has it
pub one_shifted : (k : ℕ) → k < 64 → 1 * 2 ^ k % 2 ^ 64 ≡ 2 ^ k
one_shifted k h = rw one-mul (mod-eq_of_lt (pow-lt h))

-- a byte with another digit is a byte; p is 2 ^ k, as the code has it
pub byte_digit_lt : {x k b p : ℕ} → p ≡ 2 ^ k → x < 256 → k < 8 → b < 2 → (x / p / 2 * 2 + b) * p + x % p < 256
unfolding with_digit
byte_digit_lt {x} {k} {b} {p} ep hx hk hb =
    let e : suc (7 - k) + k ≡ 8 = omega arith in
    rw ep (rw (ap (λ (n : ℕ). 2 ^ n) e) at (digit_lt (7 - k) k {x = x} {b = b} (rw e hx) hb))

-- ---- lengths

pub length_binary : (w v : ℕ) → length (binary w v) ≡ w
unfolding binary
length_binary zero v = refl
length_binary (suc w) v = length-append (binary w (v / 2)) (v % 2 ∷ []) ∙ ap (λ (n : ℕ). n + 1) (length_binary w (v / 2)) ∙ add-one w

pub length_set_bit : (l : List ℕ) (i b : ℕ) → length (set_bit l i b) ≡ length l
unfolding set_bit
length_set_bit l i b = length-set l (i / 8) (with_digit (get_or l (i / 8) 0) (7 - i % 8) b)

pub length_put : (l : List ℕ) (at : ℕ) (bs : List ℕ) → length (put_bits l at bs) ≡ length l
unfolding put_bits
length_put l at [] = refl
length_put l at (b ∷ bs) = length_put (set_bit l at b) (suc at) bs ∙ length_set_bit l at b

-- ---- a run of bits

pub put_append : (l : List ℕ) (at : ℕ) (xs ys : List ℕ) → put_bits l at (xs ++ ys) ≡ put_bits (put_bits l at xs) (at + length xs) ys
unfolding put_bits
put_append l at [] ys = rw add-zero
put_append l at (x ∷ xs) ys =
    put_append (set_bit l at x) (suc at) xs ys
    ∙ ap (λ (n : ℕ). put_bits (put_bits (set_bit l at x) (suc at) xs) n ys) (suc-add at (length xs) ∙ sym (add-suc at (length xs)))

binary_more : (w k v : ℕ) → k < w → binary (k + 1) (v / 2 ^ (w - (k + 1))) ≡ binary k (v / 2 ^ (w - k)) ++ (v / 2 ^ (w - (k + 1)) % 2 ∷ [])
unfolding binary
binary_more w k v h =
    let e : w - (k + 1) + 1 ≡ w - k = omega arith in
    let d : v / 2 ^ (w - (k + 1)) / 2 ≡ v / 2 ^ (w - k) = shr-shr v (w - (k + 1)) 1 ∙ ap (λ (n : ℕ). v / 2 ^ n) e in
    ap (λ (n : ℕ). binary n (v / 2 ^ (w - (k + 1)))) (add-one k) ∙ ap (λ (u : ℕ). binary k u ++ (v / 2 ^ (w - (k + 1)) % 2 ∷ [])) d

-- one more bit of a number, as a loop going up writes it: the bit at + k in the code's own terms
pub put_more : (l m : List ℕ) (at w k v : ℕ) → k < w → m ≡ put_bits l at (binary k (v / 2 ^ (w - k)))
    → set m (at / 8 + (at % 8 + k) / 8) (with_digit (get_or m (at / 8 + (at % 8 + k) / 8) 0) (7 - (at % 8 + k) % 8) (v / 2 ^ (w - (k + 1)) % 2))
    ≡ put_bits l at (binary (k + 1) (v / 2 ^ (w - (k + 1))))
unfolding put_bits set_bit
put_more l m at w k v h e =
    let i : at / 8 + (at % 8 + k) / 8 ≡ (at + k) / 8 = omega arith in
    let r : (at % 8 + k) % 8 ≡ (at + k) % 8 = omega arith in
    let b = v / 2 ^ (w - (k + 1)) % 2 in
    rw (i, r)
    (ap (λ (o : List ℕ). set_bit o (at + k) b) e
    ∙ sym
    (ap (λ (bs : List ℕ). put_bits l at bs) (binary_more w k v h)
    ∙ put_append l at (binary k (v / 2 ^ (w - k))) _
    ∙ ap (λ (n : ℕ). set_bit (put_bits l at (binary k (v / 2 ^ (w - k)))) (at + n) b) (length_binary k _)))

pub binary_end : (w k v : ℕ) → k ≡ w → binary k (v / 2 ^ (w - k)) ≡ binary w v
binary_end w k v e =
    let z : w - k ≡ 0 = omega arith in
    rw (z, e, div-one)

-- ---- where bits can be put, and where not

module _ (l : List ℕ) (at w v : ℕ) where
  pub put_there : w ≤ 64 → at + w ≤ 8 * length l → put_of l at w v ≡ put_bits l at (binary w v)
  unfolding put_of can_put
  put_there h k = rw (le-leb w 64 h, le-leb (at + w) (8 * length l) k)

  pub put_wide : 64 < w → put_of l at w v ≡ l
  unfolding put_of can_put
  put_wide h = rw (lt-leb w 64 h)

  pub put_past : w ≤ 64 → 8 * length l < at + w → put_of l at w v ≡ l
  unfolding put_of can_put
  put_past h k = rw (le-leb w 64 h, lt-leb (at + w) (8 * length l) k)

-- the spare bits of a byte are there where its other bits are
pub pad_there : (l : List ℕ) (at : ℕ) → at ≤ 8 * length l → pad_of l at ≡ put_bits l at (binary (spare at) 0)
unfolding pad_of spare
pad_there l at h = put_there l at ((8 - at % 8) % 8) 0 (omega arith) (omega arith)
