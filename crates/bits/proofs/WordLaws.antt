-- A field, from the eight bytes that it begins in and the ninth. Assumes nothing.
use Prim.Native.Nat.{ℕ, zero, suc, ◌+◌, ◌-◌, ◌*◌, ◌/◌, ◌%◌, ◌^◌, ◌≤◌, ◌<◌}
use mathlib.Core.Path.{◌≡◌, sym, ap, ◌∙◌}
use mathlib.Core.List.{List, [], ◌∷◌}
use native.Mathlib.Nat.{div-one, mul_assoc, add-mul}
use native.Mathlib.Omega.{arith}
use lib.ListN.{length, get_or}
use lib.Pow.{pow-add, low, shl_lt, shl-shr, shr-shr}
use Rattle.std.specs.Int.{w64, from_be_bytes}
use Rattle.bits.specs.Fields.{bit_at, field_at}
use Rattle.bits.proofs.FieldLaws.{bit_lt, field_lt, field_below, field_split, field_front, field_past}

-- ---- bytes

-- the first w bits of byte i
pub byte_front : (l : List ℕ) (i w : ℕ) → get_or l i 0 < 256 → w ≤ 8 → field_at (bit_at l) (8 * i) w ≡ get_or l i 0 / 2 ^ (8 - w)
unfolding field_at bit_at
byte_front l i zero h k = omega arith
byte_front l i (suc w) h k =
    let ih = byte_front l i w h (omega arith) in
    let d : (8 * i + w) / 8 ≡ i = omega arith in
    let m : (8 * i + w) % 8 ≡ w = omega arith in
    let e : 7 - w + 1 ≡ 8 - w = omega arith in
    let t : 8 - suc w ≡ 7 - w = omega arith in
    let q : get_or l i 0 / 2 ^ (7 - w) / 2 ≡ get_or l i 0 / 2 ^ (8 - w) = shr-shr (get_or l i 0) (7 - w) 1 ∙ ap (λ (n : ℕ). get_or l i 0 / 2 ^ n) e in
    rw (ih, d, m, t) (omega (arith, q))

pub byte_field : (l : List ℕ) (i : ℕ) → get_or l i 0 < 256 → field_at (bit_at l) (8 * i) 8 ≡ get_or l i 0
byte_field l i h = byte_front l i 8 h (omega arith) ∙ div-one (get_or l i 0)

-- fewer than eight bytes leave room for one more
pub bytes_lt : (l : List ℕ) (i k : ℕ) → k < 8 → field_at (bit_at l) (8 * i) (8 * k) < 2 ^ 56
bytes_lt l i k h = field_below 56 l (8 * i) (8 * k) (omega arith)

-- one byte more, as a loop going up takes it
pub byte_more : (l : List ℕ) (i k : ℕ) → get_or l (i + k) 0 < 256
    → field_at (bit_at l) (8 * i) (8 * k) * 256 + get_or l (i + k) 0 ≡ field_at (bit_at l) (8 * i) (8 * (k + 1))
byte_more l i k h =
    let e : 8 * (k + 1) ≡ 8 * k + 8 = omega arith in
    let p : 8 * i + 8 * k ≡ 8 * (i + k) = omega arith in
    sym (rw (e, field_split (bit_at l) (8 * i) (8 * k) 8, p, byte_field l (i + k) h))

-- eight bytes, the first of most worth
pub word_of_bytes : (l : List ℕ) (i : ℕ) → ((j : ℕ) → get_or l j 0 < 256)
    → from_be_bytes w64 (get_or l i 0 ∷ get_or l (i + 1) 0 ∷ get_or l (i + 2) 0 ∷ get_or l (i + 3) 0 ∷ get_or l (i + 4) 0 ∷ get_or l (i + 5) 0 ∷ get_or l (i + 6) 0 ∷ get_or l (i + 7) 0 ∷ [])
    ≡ field_at (bit_at l) (8 * i) 64
word_of_bytes l i h =
    let first : field_at (bit_at l) (8 * i) 8 ≡ get_or l i 0 = byte_field l i (h i) in
    omega (
      arith,
      first,
      byte_more l i 1 (h (i + 1)),
      byte_more l i 2 (h (i + 2)),
      byte_more l i 3 (h (i + 3)),
      byte_more l i 4 (h (i + 4)),
      byte_more l i 5 (h (i + 5)),
      byte_more l i 6 (h (i + 6)),
      byte_more l i 7 (h (i + 7)),
    )

-- ---- the 64 bits from byte i on, brought to the position 8 * i + r

module _ (f : ℕ → ℕ) (hf : (i : ℕ) → f i < 2) (at r : ℕ) (hr : r ≤ 64) where
  -- shifted up by r, they are the 64 - r bits after the first r
  pub shifted : field_at f at 64 * 2 ^ r % 2 ^ 64 ≡ field_at f (at + r) (64 - r) * 2 ^ r
  shifted =
      let e : r + (64 - r) ≡ 64 = omega arith in
      let d : 64 - r + r ≡ 64 = omega arith in
      let s : field_at f at 64 ≡ field_at f at r * 2 ^ (64 - r) + field_at f (at + r) (64 - r) = ap (λ (n : ℕ). field_at f at n) (sym e) ∙ field_split f at r (64 - r) in
      let p : 2 ^ (64 - r) * 2 ^ r ≡ 2 ^ 64 = sym (pow-add 2 (64 - r) r) ∙ ap (λ (n : ℕ). 2 ^ n) d in
      let b : field_at f (at + r) (64 - r) * 2 ^ r < 2 ^ 64 = rw (ap (λ (n : ℕ). 2 ^ n) d) at (shl_lt (64 - r) r (field_lt f hf (at + r) (64 - r))) in
      rw (s, add-mul, mul_assoc, p) (low (field_at f at r) 64 b)

  -- a field that ends within them
  pub field_within : (w : ℕ) → r + w ≤ 64 → field_at f at 64 * 2 ^ r % 2 ^ 64 / 2 ^ (64 - w) ≡ field_at f (at + r) w
  field_within w h =
      let t : r + (64 - r - w) ≡ 64 - w = omega arith in
      let u : w + (64 - r - w) ≡ 64 - r = omega arith in
      rw (shifted, ← ap (λ (n : ℕ). 2 ^ n) t, ← shr-shr (field_at f (at + r) (64 - r) * 2 ^ r) r (64 - r - w), shl-shr)
      (ap (λ (n : ℕ). field_at f (at + r) n / 2 ^ (64 - r - w)) (sym u) ∙ field_front f hf (at + r) w (64 - r - w))

  -- with the first r bits of the ninth byte, they are the 64 bits from there on
  pub joined : field_at f at 64 * 2 ^ r % 2 ^ 64 + field_at f (at + 64) r ≡ field_at f (at + r) 64
  joined =
      let d : 64 - r + r ≡ 64 = omega arith in
      let p : at + r + (64 - r) ≡ at + 64 = omega arith in
      rw shifted (sym (ap (λ (n : ℕ). field_at f (at + r) n) (sym d) ∙ field_split f (at + r) (64 - r) r ∙ ap (λ (n : ℕ). field_at f (at + r) (64 - r) * 2 ^ r + field_at f n r) p))

-- where they reach past the end, they are the last eight bytes, moved up
pub last_word : (l : List ℕ) (i : ℕ) → 8 ≤ length l → length l ≤ i + 8 → i ≤ length l
    → field_at (bit_at l) (8 * (length l - 8)) 64 * 2 ^ (8 * (i - (length l - 8))) % 2 ^ 64 ≡ field_at (bit_at l) (8 * i) 64
last_word l i h k m =
    let r = 8 * (i - (length l - 8)) in
    let at = 8 * (length l - 8) in
    let p : at + r ≡ 8 * i = omega arith in
    let z : field_at (bit_at l) (at + 64) r ≡ 0 = field_past l (at + 64) r (omega arith) in
    let j : field_at (bit_at l) at 64 * 2 ^ r % 2 ^ 64 + field_at (bit_at l) (at + 64) r ≡ field_at (bit_at l) (at + r) 64 = joined (bit_at l) (bit_lt l) at r (omega arith) in
    omega (arith, z, j) ∙ ap (λ (n : ℕ). field_at (bit_at l) n 64) p

-- and so is a field that begins in them or just after them
pub last_field : (l : List ℕ) (at w : ℕ) → 8 ≤ length l → 8 * (length l - 8) ≤ at → at ≤ 8 * length l → w ≤ 64
    → field_at (bit_at l) (8 * (length l - 8)) 64 * 2 ^ (at - 8 * (length l - 8)) % 2 ^ 64 / 2 ^ (64 - w) ≡ field_at (bit_at l) at w
last_field l at w h k m hw =
    let from = 8 * (length l - 8) in
    let r = at - from in
    let p : from + r ≡ at = omega arith in
    let u : w + (64 - w) ≡ 64 = omega arith in
    let z : field_at (bit_at l) (from + 64) r ≡ 0 = field_past l (from + 64) r (omega arith) in
    let j : field_at (bit_at l) from 64 * 2 ^ r % 2 ^ 64 + field_at (bit_at l) (from + 64) r ≡ field_at (bit_at l) (from + r) 64 = joined (bit_at l) (bit_lt l) from r (omega arith) in
    let moved : field_at (bit_at l) from 64 * 2 ^ r % 2 ^ 64 ≡ field_at (bit_at l) at (w + (64 - w)) =
    omega (arith, z, j) ∙ ap (λ (n : ℕ). field_at (bit_at l) n 64) p ∙ ap (λ (n : ℕ). field_at (bit_at l) at n) (sym u) in
    ap (λ (x : ℕ). x / 2 ^ (64 - w)) moved ∙ field_front (bit_at l) (bit_lt l) at w (64 - w)

-- ---- as the code has it: the position at, its byte at / 8 and its bit at % 8

module _ (l : List ℕ) (at w : ℕ) (hw : w ≤ 64) where
  from : 8 * (at / 8) + at % 8 ≡ at
  from = omega arith

  pub one_word : at % 8 + w ≤ 64 → field_at (bit_at l) (8 * (at / 8)) 64 * 2 ^ (at % 8) % 2 ^ 64 / 2 ^ (64 - w) ≡ field_at (bit_at l) at w
  one_word h = field_within (bit_at l) (bit_lt l) (8 * (at / 8)) (at % 8) (omega arith) w h ∙ ap (λ (n : ℕ). field_at (bit_at l) n w) from

  module _ (h : get_or l (at / 8 + 8) 0 < 256) where
    pub nine_bytes : field_at (bit_at l) (8 * (at / 8)) 64 * 2 ^ (at % 8) % 2 ^ 64 + get_or l (at / 8 + 8) 0 / 2 ^ (8 - at % 8) ≡ field_at (bit_at l) at 64
    nine_bytes =
        let p : 8 * (at / 8 + 8) ≡ 8 * (at / 8) + 64 = omega arith in
        let b : get_or l (at / 8 + 8) 0 / 2 ^ (8 - at % 8) ≡ field_at (bit_at l) (8 * (at / 8) + 64) (at % 8) =
        sym (byte_front l (at / 8 + 8) (at % 8) h (omega arith)) ∙ ap (λ (n : ℕ). field_at (bit_at l) n (at % 8)) p in
        rw b (joined (bit_at l) (bit_lt l) (8 * (at / 8)) (at % 8) (omega arith) ∙ ap (λ (n : ℕ). field_at (bit_at l) n 64) from)

    pub word_and_byte : (field_at (bit_at l) (8 * (at / 8)) 64 * 2 ^ (at % 8) % 2 ^ 64 + get_or l (at / 8 + 8) 0 / 2 ^ (8 - at % 8)) / 2 ^ (64 - w) ≡ field_at (bit_at l) at w
    word_and_byte =
        let u : w + (64 - w) ≡ 64 = omega arith in
        rw nine_bytes (ap (λ (n : ℕ). field_at (bit_at l) at n / 2 ^ (64 - w)) (sym u) ∙ field_front (bit_at l) (bit_lt l) at w (64 - w))
