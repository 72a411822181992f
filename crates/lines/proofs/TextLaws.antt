-- Words, and a number after them, in the twenty bytes of a text. Assumes nothing.
use Prim.Native.Nat.{ℕ, ◌+◌, ◌-◌, ◌/◌, ◌%◌, ◌<◌, ◌≤◌, min}
use mathlib.Core.Path.{◌≡◌, refl, ◌∙◌}
use mathlib.Core.Bool.{Bool, true, false, cond}
use mathlib.Core.List.{List, [], ◌∷◌}
use mathlib.Core.Logic.{⊎_elim}
use native.Mathlib.Omega.{arith}
use borrow.Author.Tests.{le-leb, lt-leb, lt-ltb, le-ltb}
use lib.Dec.{leb}
use lib.ListN.{length, take, drop, replicate}
use lib.Seq.{take-length}
use Rattle.bits.proofs.SetLaws.{lt_or}
use Rattle.blocks.specs.Blocks.{fits, text_end, put_text, Wrote}
use Rattle.lines.specs.Saying.{decimal_of, digit_of, position_of, zeros_before, text_of}
use Rattle.lines.specs.declared.Text.{Text}

both_parts : {a b : ℕ} {p q : List ℕ} → a ≡ b → p ≡ q → ◌≡◌ {A = Text} (record { len = a; bytes = p }) (record { len = b; bytes = q })
both_parts e f = cc

-- what was written from the start of twenty zeros is the text
pub text_wrote : {m : List ℕ} {b : ℕ} {xs : List ℕ} → length xs ≤ 20 → Wrote (replicate 20 0) 0 m b xs → ◌≡◌ {A = Text} (record { len = b; bytes = m }) (text_of xs)
unfolding text_of text_end put_text fits
text_wrote {m} {b} {xs} h p =
    let f : min (length {A = ℕ} (replicate 20 0) - 0) (length xs) ≡ length xs = omega arith in
    both_parts (p.ends ∙ rw f (omega arith)) (p.holds ∙ rw (f, take-length))

-- the digits of a number of four, as far as it has them
pub digits_left : (n : ℕ) → take (4 - zeros_before n) (drop (zeros_before n) (digit_of (n / 1000) ∷ digit_of (n / 100) ∷ digit_of (n / 10) ∷ digit_of n ∷ [])) ≡ position_of n
digits_left n = go (leb 10 n) (leb 100 n) (leb 1000 n)
  where
    a : ℕ
    a = digit_of (n / 1000)

    b : ℕ
    b = digit_of (n / 100)

    d : ℕ
    d = digit_of (n / 10)

    e : ℕ
    e = digit_of n

    go : (p q r : Bool) → take (4 - cond p (cond q (cond r 0 1) 2) 3) (drop (cond p (cond q (cond r 0 1) 2) 3) (a ∷ b ∷ d ∷ e ∷ []))
        ≡ cond p (cond q (cond r (a ∷ b ∷ d ∷ e ∷ []) (b ∷ d ∷ e ∷ [])) (d ∷ e ∷ [])) (e ∷ [])
    go true true true = refl
    go true true false = refl
    go true false r = refl
    go false q r = refl

pub length_position : (n : ℕ) → length (position_of n) ≤ 4
length_position n = go (leb 10 n) (leb 100 n) (leb 1000 n)
  where
    go : (p q r : Bool) → length (cond p (cond q (cond r (digit_of (n / 1000) ∷ digit_of (n / 100) ∷ digit_of (n / 10) ∷ digit_of n ∷ []) (digit_of (n / 100) ∷ digit_of (n / 10) ∷ digit_of n ∷ [])) (digit_of (n / 10) ∷ digit_of n ∷ [])) (digit_of n ∷ [])) ≤ 4
    go true true true = omega arith
    go true true false = omega arith
    go true false r = omega arith
    go false q r = omega arith

-- a number below 256 and a position are printed alike
pub decimal_position : (n : ℕ) → n < 256 → decimal_of n ≡ position_of n
unfolding digit_of
decimal_position n h = ⊎_elim one (λ k. ⊎_elim (two k) (three k) (lt_or n 100)) (lt_or n 10)
  where
    one : n < 10 → decimal_of n ≡ position_of n
    one k = let e : 48 + n ≡ n % 10 + 48 = omega arith in rw (lt-ltb n 10 k, lt-leb 10 n k, e)

    two : 10 ≤ n → n < 100 → decimal_of n ≡ position_of n
    two k m = let e : 48 + n / 10 ≡ n / 10 % 10 + 48 = omega arith in let f : 48 + n % 10 ≡ n % 10 + 48 = omega arith in
        rw (le-ltb n 10 k, lt-ltb n 100 m, le-leb 10 n k, lt-leb 100 n m, e, f)

    three : 10 ≤ n → 100 ≤ n → decimal_of n ≡ position_of n
    three k m = let e : 48 + n / 100 ≡ n / 100 % 10 + 48 = omega arith in let f : 48 + n / 10 % 10 ≡ n / 10 % 10 + 48 = omega arith in let g : 48 + n % 10 ≡ n % 10 + 48 = omega arith in
        rw (le-ltb n 10 k, le-ltb n 100 m, le-leb 10 n k, le-leb 100 n m, lt-leb 1000 n (omega arith), e, f, g)
