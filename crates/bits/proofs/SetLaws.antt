-- One bit that is set: it reads back, every other bit stays, and a bit set to what it was changes nothing. Assumes nothing.
use Prim.Native.Nat.{ℕ, ◌+◌, ◌-◌, ◌*◌, ◌/◌, ◌%◌, ◌^◌, ◌≤◌, ◌<◌}
use mathlib.Core.Path.{◌≡◌, refl, sym, ap, ◌∙◌}
use mathlib.Core.Bool.{Bool, true, false}
use mathlib.Core.List.{List}
use mathlib.Core.Logic.{◌⊎◌, inl, inr, ⊎_elim}
use native.Mathlib.Nat.{mod-lt}
use native.Mathlib.Omega.{arith}
use lib.Arith.{digits_mod, digits_div}
use lib.Dec.{eqb, ltb}
use lib.ListN.{length, set, get_or}
use lib.Pow.{pow_pos, shr-shr, high, low, split, mod-mod-pow, field}
use lib.Seq.{get_or-set_same, get_or-set_other, set-get_or}
use borrow.Author.Tests.{eqb-true, eqb-false, ltb-true, ltb-false}
use Rattle.bits.specs.Fields.{bit_at}
use Rattle.bits.specs.Puts.{with_digit, set_bit}

pub eq_or : (i j : ℕ) → (i ≡ j) ⊎ (i ≡ j → ⊥)
eq_or i j = go (eqb i j) refl
  where
    go : (t : Bool) → eqb i j ≡ t → (i ≡ j) ⊎ (i ≡ j → ⊥)
    go true e = inl (eqb-true i j e)
    go false e = inr (eqb-false i j e)

pub lt_or : (i j : ℕ) → (i < j) ⊎ (j ≤ i)
lt_or i j = go (ltb i j) refl
  where
    go : (t : Bool) → ltb i j ≡ t → (i < j) ⊎ (j ≤ i)
    go true e = inl (ltb-true i j e)
    go false e = inr (ltb-false i j e)

-- ---- one digit of a number

digit_same : (x k b : ℕ) → b < 2 → with_digit x k b / 2 ^ k % 2 ≡ b
unfolding with_digit
digit_same x k b h = rw (high (x / 2 ^ k / 2 * 2 + b) k (mod-lt x (pow_pos k))) (digits_mod (x / 2 ^ k / 2) h)

same_low : (a b j d : ℕ) → a % 2 ^ (d + (1 + j)) ≡ b % 2 ^ (d + (1 + j)) → a / 2 ^ j % 2 ≡ b / 2 ^ j % 2
same_low a b j d e =
    sym (field a 1 j)
    ∙ ap (λ (n : ℕ). n / 2 ^ j) (sym (mod-mod-pow a d (1 + j)) ∙ ap (λ (n : ℕ). n % 2 ^ (1 + j)) e ∙ mod-mod-pow b d (1 + j))
    ∙ field b 1 j

same_high : (a b k d : ℕ) → a / 2 ^ k / 2 ≡ b / 2 ^ k / 2 → a / 2 ^ (k + 1 + d) ≡ b / 2 ^ (k + 1 + d)
same_high a b k d e =
    sym (shr-shr a (k + 1) d) ∙ ap (λ (n : ℕ). n / 2 ^ d) (sym (shr-shr a k 1) ∙ e ∙ shr-shr b k 1) ∙ shr-shr b (k + 1) d

digit_low : (x k b j : ℕ) → j < k → with_digit x k b / 2 ^ j % 2 ≡ x / 2 ^ j % 2
unfolding with_digit
digit_low x k b j h =
    let e : k - (1 + j) + (1 + j) ≡ k = omega arith in
    same_low _ x j (k - (1 + j)) (rw e (low (x / 2 ^ k / 2 * 2 + b) k (mod-lt x (pow_pos k))))

digit_high : (x k b j : ℕ) → b < 2 → k < j → with_digit x k b / 2 ^ j % 2 ≡ x / 2 ^ j % 2
unfolding with_digit
digit_high x k b j hb h =
    let e : k + 1 + (j - (k + 1)) ≡ j = omega arith in
    let s = same_high ((x / 2 ^ k / 2 * 2 + b) * 2 ^ k + x % 2 ^ k) x k (j - (k + 1)) (rw (high (x / 2 ^ k / 2 * 2 + b) k (mod-lt x (pow_pos k))) (digits_div (x / 2 ^ k / 2) hb)) in
    ap (λ (n : ℕ). n % 2) (rw e at s)

digit_kept : (x k : ℕ) → with_digit x k (x / 2 ^ k % 2) ≡ x
unfolding with_digit
digit_kept x k =
    let d : x / 2 ^ k / 2 * 2 + x / 2 ^ k % 2 ≡ x / 2 ^ k = omega arith in
    rw d (split x k)

-- ---- one bit of bytes

module _ (l : List ℕ) (i b : ℕ) (hi : i < 8 * length l) (hb : b < 2) where
  inside : i / 8 < length l
  inside = omega arith

  pub bit_set_same : bit_at (set_bit l i b) i ≡ b
  unfolding bit_at set_bit
  bit_set_same = rw (get_or-set_same l (i / 8) _ 0 inside) (digit_same (get_or l (i / 8) 0) (7 - i % 8) b hb)

  pub bit_set_other : (j : ℕ) → (i ≡ j → ⊥) → bit_at (set_bit l i b) j ≡ bit_at l j
  unfolding bit_at set_bit
  bit_set_other j n = ⊎_elim same other (eq_or (j / 8) (i / 8))
    where
      x : ℕ
      x = get_or l (i / 8) 0

      y : ℕ
      y = with_digit x (7 - i % 8) b

      kept : j / 8 ≡ i / 8 → y / 2 ^ (7 - j % 8) % 2 ≡ x / 2 ^ (7 - j % 8) % 2
      kept e = ⊎_elim (λ w. digit_low x (7 - i % 8) b (7 - j % 8) w) (λ w. digit_high x (7 - i % 8) b (7 - j % 8) hb (omega arith)) (lt_or (7 - j % 8) (7 - i % 8))

      same : j / 8 ≡ i / 8 → get_or (set l (i / 8) y) (j / 8) 0 / 2 ^ (7 - j % 8) % 2 ≡ get_or l (j / 8) 0 / 2 ^ (7 - j % 8) % 2
      same e = rw (e, get_or-set_same l (i / 8) y 0 inside) (kept e)

      other : (j / 8 ≡ i / 8 → ⊥) → get_or (set l (i / 8) y) (j / 8) 0 / 2 ^ (7 - j % 8) % 2 ≡ get_or l (j / 8) 0 / 2 ^ (7 - j % 8) % 2
      other e = rw (get_or-set_other l (i / 8) (j / 8) y 0 e)

pub bit_kept : (l : List ℕ) (i : ℕ) → set_bit l i (bit_at l i) ≡ l
unfolding bit_at set_bit
bit_kept l i = rw (digit_kept (get_or l (i / 8) 0) (7 - i % 8)) (set-get_or l (i / 8) 0)

-- a byte that the bit is not in
pub byte_set_other : (l : List ℕ) (i b j : ℕ) → (j ≡ i / 8 → ⊥) → get_or (set_bit l i b) j 0 ≡ get_or l j 0
unfolding set_bit
byte_set_other l i b j n = get_or-set_other l (i / 8) j _ 0 n
