-- A run of bits that stands at a position: it does once it is put, bits and bytes beside it stay, and putting what stands there
-- changes nothing. Assumes nothing.
use Prim.Native.Nat.{ℕ, suc, ◌+◌, ◌*◌, ◌/◌, ◌≤◌, ◌<◌}
use mathlib.Core.Path.{◌≡◌, refl, sym, ◌∙◌, subst}
use mathlib.Core.List.{List, [], ◌∷◌, ◌++◌}
use mathlib.Core.Logic.{◌⊎◌, inl, inr, ⊎_elim}
use native.Mathlib.Nat.{suc-add, add-suc, add-zero, eq-or-lt_of_le}
use native.Mathlib.Omega.{arith}
use lib.ListN.{length, get_or}
use Rattle.bits.specs.Fields.{bit_at}
use Rattle.bits.specs.Puts.{set_bit, put_bits}
use Rattle.bits.proofs.PutLaws.{length_set_bit}
use Rattle.bits.proofs.SetLaws.{bit_set_same, bit_set_other, bit_kept, byte_set_other}

-- each is 0 or 1
abbrev pub AreBits : List ℕ → Type 0
AreBits [] = Unit
AreBits (b ∷ bs) = (b < 2) × AreBits bs

-- the bits bs stand in f from position at on
abbrev pub Stands : (ℕ → ℕ) → ℕ → List ℕ → Type 0
Stands f at [] = Unit
Stands f at (b ∷ bs) = (f at ≡ b) × Stands f (suc at) bs

-- ---- one run after another

pub bits_join : (xs ys : List ℕ) → AreBits xs → AreBits ys → AreBits (xs ++ ys)
bits_join [] ys s t = t
bits_join (x ∷ xs) ys s t = (s.0, bits_join xs ys s.1 t)

pub stands_left : (f : ℕ → ℕ) (at : ℕ) (xs ys : List ℕ) → Stands f at (xs ++ ys) → Stands f at xs
stands_left f at [] ys s = tt
stands_left f at (x ∷ xs) ys s = (s.0, stands_left f (suc at) xs ys s.1)

pub stands_right : (f : ℕ → ℕ) (at : ℕ) (xs ys : List ℕ) → Stands f at (xs ++ ys) → Stands f (at + length xs) ys
stands_right f at [] ys s = rw add-zero s
stands_right f at (x ∷ xs) ys s = rw (add-suc, ← suc-add) (stands_right f (suc at) xs ys s.1)

pub stands_join : (f : ℕ → ℕ) (at : ℕ) (xs ys : List ℕ) → Stands f at xs → Stands f (at + length xs) ys → Stands f at (xs ++ ys)
stands_join f at [] ys s t = rw add-zero at t
stands_join f at (x ∷ xs) ys s t = (s.0, stands_join f (suc at) xs ys s.1 (rw (add-suc, ← suc-add) at t))

-- where the same bits stand in both, the two agree
pub stands_agree : (f g : ℕ → ℕ) (at : ℕ) (bs : List ℕ) → Stands f at bs → Stands g at bs → (j : ℕ) → at ≤ j → j < at + length bs → f j ≡ g j
stands_agree f g at [] s t j h k = absurd (omega arith)
stands_agree f g at (b ∷ bs) s t j h k =
    ⊎_elim (λ e. subst (λ (x : ℕ). f x ≡ g x) e (s.0 ∙ sym t.0)) (λ e. stands_agree f g (suc at) bs s.1 t.1 j e (omega arith)) (eq-or-lt_of_le h)

-- ---- a run that is put

-- the n bits from position at on and the w bits from position from on have none in common
abbrev pub Apart : ℕ → ℕ → ℕ → ℕ → Type 0
Apart at n from w = (from + w ≤ at) ⊎ (at + n ≤ from)

later : (at n from w : ℕ) → Apart at (suc n) from w → Apart (suc at) n from w
later at n from w k = ⊎_elim (λ h. inl (omega arith)) (λ h. inr (omega arith)) k

-- a bit beside it stays
pub put_other : (l : List ℕ) (at : ℕ) (bs : List ℕ) → AreBits bs → at + length bs ≤ 8 * length l
    → (j : ℕ) → Apart at (length bs) j 1 → bit_at (put_bits l at bs) j ≡ bit_at l j
unfolding put_bits
put_other l at [] hb h j k = refl
put_other l at (b ∷ bs) hb h j k =
    let apart : at ≡ j → ⊥ = λ e. ⊎_elim (λ x. omega arith) (λ y. omega arith) k in
    put_other (set_bit l at b) (suc at) bs hb.1 (rw (length_set_bit l at b) (omega arith)) j (later at (length bs) j 1 k)
    ∙ bit_set_other l at b (omega arith) hb.0 j apart

-- a byte beside it stays
pub byte_other : (l : List ℕ) (at : ℕ) (bs : List ℕ) (j : ℕ) → Apart at (length bs) (8 * j) 8 → get_or (put_bits l at bs) j 0 ≡ get_or l j 0
unfolding put_bits
byte_other l at [] j k = refl
byte_other l at (b ∷ bs) j k =
    let apart : j ≡ at / 8 → ⊥ = λ e. ⊎_elim (λ x. omega arith) (λ y. omega arith) k in
    byte_other (set_bit l at b) (suc at) bs j (later at (length bs) (8 * j) 8 k) ∙ byte_set_other l at b j apart

pub put_stands : (l : List ℕ) (at : ℕ) (bs : List ℕ) → AreBits bs → at + length bs ≤ 8 * length l → Stands (bit_at (put_bits l at bs)) at bs
unfolding put_bits
put_stands l at [] hb h = tt
put_stands l at (b ∷ bs) hb h =
    let h' : suc at + length bs ≤ 8 * length (set_bit l at b) = rw (length_set_bit l at b) (omega arith) in (
      put_other (set_bit l at b) (suc at) bs hb.1 h' at (inl (omega arith)) ∙ bit_set_same l at b (omega arith) hb.0,
      put_stands (set_bit l at b) (suc at) bs hb.1 h',
    )

-- putting what stands there changes nothing
pub put_standing : (l : List ℕ) (at : ℕ) (bs : List ℕ) → Stands (bit_at l) at bs → put_bits l at bs ≡ l
unfolding put_bits
put_standing l at [] s = refl
put_standing l at (b ∷ bs) s = rw (← s.0, bit_kept l at) (put_standing l (suc at) bs s.1)
