-- The shape of a line, byte by byte as the code's loops take it. Assumes nothing.
use Rattle.std.proofs.Common.{◌≡◌, ℕ, Option, None, zero, suc, ◌+◌, ◌-◌, ◌*◌, ◌%◌, ◌^◌, ◌<◌, ◌≤◌, Bool, true, false, cond, eqb, ltb, leb, ◌&&◌, List, [], ◌∷◌, length, get_or, drop, set, refl, ◌∙◌, subst, ⊎_elim, lt_of_lt_of_le, pow-suc, add-one, arith, drop_of_length-le, drop-cons, ltb-true, le-ltb, lt-ltb, le-leb, leb-true}
use native.Mathlib.Nat.{pow-le-pow_right}
use borrow.Author.Tests.{lt-leb}
use Rattle.bits.proofs.SetLaws.{lt_or}
use Rattle.codec.specs.Codec.{both}
use Rattle.codec.proofs.Good.{both_true, both_left, both_right}
use Rattle.lines.specs.Shape.{is_digit, is_letter, hex_of, is_hex, no_bytes, no_hex, hex_then, hex_in, Line, other, line_with, after_digits, digits_then, line_of}
use Rattle.lines.specs.Parsing.{letter_worth, Heads}
use Rattle.lines.specs.declared.Head.{Head}

-- ---- one byte

pub both_is : (p q : Bool) → p && q ≡ both p q
unfolding both
both_is true q = refl
both_is false q = refl

pub digit_worth : (b : ℕ) → is_digit b ≡ true → hex_of b < 10
unfolding hex_of is_digit
digit_worth b e =
    let low : 48 ≤ b = leb-true 48 b (both_left _ _ e) in
    let high : b ≤ 57 = leb-true b 57 (both_right (leb 48 b) _ e) in
    rw e (omega arith)

pub hex_most : (b : ℕ) → hex_of b ≤ 16
unfolding hex_of is_digit is_letter
hex_most b = go (both (leb 48 b) (leb b 57)) (both (leb 65 b) (leb b 70)) refl refl
  where
    go : (d e : Bool) → both (leb 48 b) (leb b 57) ≡ d → both (leb 65 b) (leb b 70) ≡ e → cond d (b - 48) (cond e (b - 55) 16) ≤ 16
    go true e h k = omega (arith, leb-true b 57 (both_right (leb 48 b) _ h))
    go false true h k = omega (arith, leb-true b 70 (both_right (leb 65 b) _ k))
    go false false h k = omega arith

-- a byte outside a range
outside : (least most b : ℕ) → (least ≤ b → b ≤ most → ⊥) → both (leb least b) (leb b most) ≡ false
unfolding both
outside least most b out = ⊎_elim (λ h. rw (lt-leb least b h)) (λ h. rw (le-leb least b h) (lt-leb b most (above h))) (lt_or b least)
  where
    above : least ≤ b → most < b
    above h = ⊎_elim (λ k. k) (λ k. absurd (out h k)) (lt_or most b)

-- a byte that is so far past 0 and past A, where what is below wraps round
module _ (b zeroth : ℕ) (h : zeroth < 256) (e : (zeroth + 48) % 2 ^ 8 ≡ b) where
  pub worth_digit : zeroth < 10 → zeroth ≡ hex_of b
  unfolding hex_of is_digit both
  worth_digit k = rw (le-leb 48 b (omega arith), le-leb b 57 (omega arith)) (omega arith)

  pub worth_letter : (ath : ℕ) → ath < 256 → (ath + 65) % 2 ^ 8 ≡ b → 10 ≤ zeroth → letter_worth ath ≡ hex_of b
  unfolding letter_worth hex_of is_digit is_letter
  worth_letter ath a d k = rw (outside 48 57 b (λ u v. omega arith)) (⊎_elim letter none (lt_or ath 6))
    where
      letter : ath < 6 → cond (ltb ath 6) (ath + 10) 16 ≡ cond (both (leb 65 b) (leb b 70)) (b - 55) 16
      letter l = rw (lt-ltb ath 6 l, both_true _ _ (le-leb 65 b (omega arith)) (le-leb b 70 (omega arith))) (omega arith)

      none : 6 ≤ ath → cond (ltb ath 6) (ath + 10) 16 ≡ cond (both (leb 65 b) (leb b 70)) (b - 55) 16
      none l = rw (le-ltb ath 6 l, outside 65 70 b (λ u v. omega arith))

-- the number of i digits
pub digits_lt : (i bits d : ℕ) → bits < 10 ^ i → d < 10 → bits * 10 + d < 10 ^ (i + 1)
digits_lt i bits d h k = rw (add-one, pow-suc) (omega arith)

pub digits_few : (i bits : ℕ) → bits < 10 ^ i → i ≤ 4 → bits < 10000
digits_few i bits h k = lt_of_lt_of_le h (pow-le-pow_right {n = 10} (omega arith) {i = i} {j = 4} k)

-- ---- the digits

module _ (l : List ℕ) (i bits : ℕ) where
  pub digits_end : length l ≤ i → digits_then i bits (drop i l) ≡ other
  unfolding digits_then
  digits_end h = rw (drop_of_length-le l h)

  module _ (h : i < length l) where
    next : drop i l ≡ get_or l i 0 ∷ drop (i + 1) l
    next = rw (add-one, drop-cons l i 0 h)

    pub digits_stop : is_digit (get_or l i 0) ≡ false → digits_then i bits (drop i l) ≡ after_digits i bits (get_or l i 0) (drop (i + 1) l)
    unfolding digits_then
    digits_stop e = rw (next, e)

    pub digits_many : is_digit (get_or l i 0) ≡ true → 4 ≤ i → digits_then i bits (drop i l) ≡ other
    unfolding digits_then
    digits_many e k = rw (next, e, le-ltb i 4 k)

    pub digits_more : is_digit (get_or l i 0) ≡ true → i < 4 → digits_then i bits (drop i l) ≡ digits_then (i + 1) (bits * 10 + hex_of (get_or l i 0)) (drop (i + 1) l)
    unfolding digits_then
    digits_more e k = rw (next, e, lt-ltb i 4 k, ← add-one i)

-- ---- the pairs of hex digits

module _ (l row : List ℕ) (k room n : ℕ) where
  pub hex_end : length l ≤ k → hex_then room n row (drop k l) ≡ record { good = true; count = n; bytes = row }
  unfolding hex_then
  hex_end h = rw (drop_of_length-le l h)

  module _ (h : k + 1 < length l) where
    two : drop k l ≡ get_or l k 0 ∷ get_or l (k + 1) 0 ∷ drop (k + 2) l
    two =
        let e : suc (suc k) ≡ k + 2 = omega arith in
        drop-cons l k 0 (omega arith) ∙ rw (drop-cons l (suc k) 0 (omega arith), e, ← add-one k)

    module _ (less : ℕ) (some : room ≡ suc less) (x y : ℕ) (ex : x ≡ hex_of (get_or l k 0)) (ey : y ≡ hex_of (get_or l (k + 1) 0)) where
      pub hex_more : x < 16 → y < 16 → hex_then room n row (drop k l) ≡ hex_then less (n + 1) (set row n (x * 16 + y)) (drop (k + 2) l)
      unfolding hex_then is_hex
      hex_more e d = rw (two, some, ← ex, ← ey, lt-ltb _ 16 e, lt-ltb _ 16 d)

-- of more digits than there is room for, none
pub hex_long : (room n : ℕ) (row l : List ℕ) → 2 * room < length l → hex_then room n row l ≡ no_hex
unfolding hex_then
hex_long room n row [] h = absurd (omega arith)
hex_long room n row (x ∷ []) h = refl
hex_long zero n row (x ∷ y ∷ l) h = refl
hex_long (suc room) n row (x ∷ y ∷ l) h = go (is_hex x) (is_hex y) (hex_long room (n + 1) (set row n (hex_of x * 16 + hex_of y)) l (omega arith))
  where
    go : (a b : Bool) → hex_then room (n + 1) (set row n (hex_of x * 16 + hex_of y)) l ≡ no_hex
        → cond a (cond b (hex_then room (n + 1) (set row n (hex_of x * 16 + hex_of y)) l) no_hex) no_hex ≡ no_hex
    go true true e = e
    go true false e = refl
    go false b e = refl

-- ---- a line of the right shape has at most 1,029 bytes

with_long : (bits : ℕ) (l : List ℕ) → 1024 < length l → line_with bits (hex_in l) ≡ other
unfolding line_with no_hex
with_long bits l h = rw (hex_long 512 0 no_bytes l h)

digits_long : (seen bits : ℕ) (l : List ℕ) → seen ≤ 4 → 1029 < seen + length l → digits_then seen bits l ≡ other
unfolding digits_then
digits_long seen bits [] m h = refl
digits_long seen bits (b ∷ l) m h =
    go (is_digit b) (ltb seen 4) (eqb b 32) (leb 1 seen) refl (λ e. digits_long (suc seen) (bits * 10 + hex_of b) l (ltb-true seen 4 e) (omega arith)) (with_long bits l (omega arith))
  where
    go : (d f s o : Bool) → ltb seen 4 ≡ f → (ltb seen 4 ≡ true → digits_then (suc seen) (bits * 10 + hex_of b) l ≡ other) → line_with bits (hex_in l) ≡ other
        → cond d (cond f (digits_then (suc seen) (bits * 10 + hex_of b) l) other) (cond s (cond o (line_with bits (hex_in l)) other) other) ≡ other
    go true true s o e k x = k e
    go true false s o e k x = refl
    go false f true true e k x = x
    go false f true false e k x = refl
    go false f false o e k x = refl

pub long_other : (l : List ℕ) → 1029 < length l → line_of l ≡ other
unfolding line_of
long_other l h = digits_long 0 0 l (omega arith) (omega arith)

-- ---- the code's answers

pub heads_none : (l : List ℕ) → Heads None l other
heads_none l = record { is = refl; inside = omega arith }

pub heads_as : (l : List ℕ) (r : Option Head) → {m n : Line} → Heads r l m → m ≡ n → Heads r l n
heads_as l r p e = subst (λ (x : Line). Heads r l x) e p
