-- Numbers in decimal and bytes in hex, turn by turn as the code's loops write them. Assumes nothing.
use Prim.Native.Nat.{ℕ, zero, suc, ◌+◌, ◌/◌, ◌%◌, ◌^◌, ◌<◌}
use mathlib.Core.Path.{◌≡◌, refl}
use mathlib.Core.Bool.{Bool}
use mathlib.Core.List.{List, [], ◌∷◌, ◌++◌, append-nil}
use native.Mathlib.Nat.{pow-suc, one-le-pow, mul-div_cancel}
use native.Mathlib.Omega.{arith}
use lib.ListN.{get_or}
use borrow.Author.Tests.{ne_eqb}
use Rattle.blocks.specs.Blocks.{Wrote}
use Rattle.words.specs.Words.{digit_in, shown, digit_if, digits_from, hex_pair, hex_from, word_in}
use Rattle.blocks.proofs.BlockLaws.{wrote_none, wrote_join, wrote_as, Yet}

-- the numbers that it is divided by
pub power_some : (k power : ℕ) → power ≡ 10 ^ k → 0 < power
power_some k power e = rw e (one-le-pow k 10 (omega arith))

pub power_less : (left k power : ℕ) → left ≡ suc k → power ≡ 10 ^ left → power / 10 ≡ 10 ^ k
power_less left k power e p = rw (p, e, pow-suc) (mul-div_cancel (10 ^ k) (omega arith))

module _ (seen : Bool) (left k n power : ℕ) (s : Bool) {l m : List ℕ} {a b : ℕ} where
  -- one digit, and then those that are left
  pub digit_turn : left ≡ suc k → power ≡ 10 ^ k → s ≡ shown seen k (n / power % 10) → Wrote l a m b (digit_if s (n / power % 10))
      → Yet m b (digits_from s k n) l a (digits_from seen left n)
  unfolding digits_from digit_in
  digit_turn one p f w t i v = wrote_as (wrote_join w v) same
    where
      same : digit_if s (n / power % 10) ++ digits_from s k n ≡ digits_from seen left n
      same = rw (one, f, p)

pub digits_over : (seen : Bool) (left n : ℕ) (l : List ℕ) (a : ℕ) → left ≡ 0 → Wrote l a l a (digits_from seen left n)
unfolding digits_from
digits_over seen left n l a e = rw e (wrote_none l a)

module _ (left k : ℕ) (area : List ℕ) (at byte : ℕ) {l m : List ℕ} {a b : ℕ} where
  pub byte_turn : left ≡ suc k → byte ≡ get_or area at 0 → Wrote l a m b (hex_pair byte) → Yet m b (hex_from k area (at + 1)) l a (hex_from left area at)
  unfolding hex_from
  byte_turn one e w t i v = wrote_as (wrote_join w v) same
    where
      same : hex_pair byte ++ hex_from k area (at + 1) ≡ hex_from left area at
      same = rw (one, e)

pub bytes_over : (left : ℕ) (area : List ℕ) (at : ℕ) (l : List ℕ) (a : ℕ) → left ≡ 0 → Wrote l a l a (hex_from left area at)
unfolding hex_from
bytes_over left area at l a e = rw e (wrote_none l a)

-- ---- an element's name

-- a number that a table does not have
abbrev pub OutOf : List (ℕ × List ℕ) → ℕ → Type 0
OutOf [] e = Unit
OutOf ((k, word) ∷ rest) e = (e ≡ k → ⊥) × OutOf rest e

pub word_out : (words : List (ℕ × List ℕ)) (e : ℕ) → OutOf words e → word_in words e ≡ []
unfolding word_in
word_out [] e o = refl
word_out ((k, word) ∷ rest) e o = rw (ne_eqb e k o.0) (word_out rest e o.1)

-- of two tables one after the other, where the first does not have the number, the second is asked
pub word_on : (first rest : List (ℕ × List ℕ)) (e : ℕ) → OutOf first e → word_in (first ++ rest) e ≡ word_in rest e
unfolding word_in
word_on [] rest e o = refl
word_on ((k, word) ∷ more) rest e o = rw (ne_eqb e k o.0) (word_on more rest e o.1)

-- ---- what is written for each of some numbers

-- of n numbers from k on
unfoldable pub each : (ℕ → List ℕ) → ℕ → ℕ → List ℕ
each f zero k = []
each f (suc n) k = f k ++ each f n (k + 1)

pub each_turn : (f : ℕ → List ℕ) (left n k : ℕ) {l m : List ℕ} {a b : ℕ} → left ≡ suc n → Wrote l a m b (f k) → Yet m b (each f n (k + 1)) l a (each f left k)
unfolding each
each_turn f left n k one w t i v = rw one (wrote_join w v)

pub each_over : (f : ℕ → List ℕ) (left k : ℕ) (l : List ℕ) (a : ℕ) → left ≡ 0 → Wrote l a l a (each f left k)
unfolding each
each_over f left k l a e = rw e (wrote_none l a)

pub each_three : (f : ℕ → List ℕ) → each f 3 0 ≡ f 0 ++ (f 1 ++ f 2)
unfolding each
each_three f = rw append-nil
