-- What the masks say, identity by identity: `mask_at`, `mask_parts`, `mask_fits`, `some_mask`. Assumes nothing.
use Prim.Native.Nat.{ℕ, zero, suc, ◌+◌, ◌-◌, ◌*◌, ◌/◌, ◌%◌, ◌^◌, ◌<◌, ◌≤◌}
use mathlib.Core.Path.{◌≡◌, refl, sym, ap, ◌∙◌}
use mathlib.Core.Bool.{Bool, true, false, not, ◌||◌}
use mathlib.Core.List.{List, [], ◌∷◌}
use mathlib.Core.Logic.{⊎_elim}
use native.Mathlib.Nat.{add-zero, div-one, le_of_suc-le-suc, not-suc-le-zero, zero-add, zero-div}
use native.Mathlib.Omega.{arith}
use lib.Dec.{eqb}
use lib.ListN.{length, get_or}
use lib.Pow.{shr-shr}
use borrow.Author.Tests.{lt-ltb, le-ltb, eq-eqb, ne_eqb}
use Rattle.bits.specs.Fields.{field_at}
use Rattle.bits.proofs.FieldLaws.{field_lt, field_split, field_front}
use Rattle.bits.proofs.SetLaws.{lt_or}
use Rattle.codec.specs.Codec.{both, number}
use Rattle.codec.proofs.Good.{both_true, not_both}
use Rattle.profile.specs.Counting.{one}
use Rattle.profile.specs.declared.Air.{Air}
use Rattle.message.specs.Acks.{mask_c}
use Rattle.message.specs.Groups.{span_of}
use Rattle.message.specs.declared.Group.{Group}
use Rattle.records.specs.declared.Record.{Record}
use Rattle.records.specs.Identities.{identity_at, count_of}
use Rattle.records.specs.Outcomes.{outcomes_of, has, mask_of, some_of}
use Rattle.records.proofs.OutcomeLaws.{one_lt, length_outcomes, outcomes_count, outcomes_le, outcome_at, outcome_lt}

-- ---- fields of any bits

-- bit i of a field of w bits, the first on top
field_bit : (f : ℕ → ℕ) → ((k : ℕ) → f k < 2) → (at w i : ℕ) → i < w → field_at f at w / 2 ^ (w - suc i) % 2 ≡ f (at + i)
unfolding field_at
field_bit f h at zero i k = absurd (omega arith)
field_bit f h at (suc w) i k = ⊎_elim (λ l. low l (field_bit f h at w i l)) here (lt_or i w)
  where
    b : f (at + w) < 2
    b = h (at + w)

    low : i < w → field_at f at w / 2 ^ (w - suc i) % 2 ≡ f (at + i) → (field_at f at w * 2 + f (at + w)) / 2 ^ (suc w - suc i) % 2 ≡ f (at + i)
    low l r =
        let e : suc w - suc i ≡ 1 + (w - suc i) = omega arith in
        let q : (field_at f at w * 2 + f (at + w)) / 2 ^ 1 ≡ field_at f at w = omega (arith, b) in
        rw (e, ← shr-shr (field_at f at w * 2 + f (at + w)) 1 (w - suc i), q) r

    here : w ≤ i → (field_at f at w * 2 + f (at + w)) / 2 ^ (suc w - suc i) % 2 ≡ f (at + i)
    here l =
        let e : i ≡ w = omega arith in
        let z : suc w - suc i ≡ 0 = omega arith in
        rw (z, e, div-one) (omega (arith, b))

-- bits that are all 0 are the number 0
field_none : (f : ℕ → ℕ) (at w : ℕ) → ((i : ℕ) → at ≤ i → i < at + w → f i ≡ 0) → field_at f at w ≡ 0
unfolding field_at
field_none f at zero h = refl
field_none f at (suc w) h =
    let r = field_none f at w (λ i l m. h i l (omega arith)) in
    let b = h (at + w) (omega arith) (omega arith) in
    rw (r, b)

-- ---- the bits of a mask

module _ (class : ℕ) (os : List ℕ) where
  bit_lt : (i : ℕ) → one (has class os i) < 2
  bit_lt i = one_lt (has class os i)

  past_none : (i : ℕ) → length os ≤ i → one (has class os i) ≡ 0
  unfolding has both
  past_none i h = rw (le-ltb i (length os) h)

  -- the bit of identity i in the mask of a class is 1 exactly if its outcome is the class
  pub mask_at : (i : ℕ) → i < length os → length os ≤ 64 → mask_of class os / 2 ^ (63 - i) % 2 ≡ one (eqb (get_or os i 0) class)
  unfolding mask_of has both
  mask_at i h l =
      let e : 63 - i ≡ 64 - suc i = omega arith in
      rw e (field_bit (λ k. one (has class os k)) bit_lt 0 64 i (omega arith) ∙ rw (zero-add i, lt-ltb i (length os) h) refl)

  module _ (n : ℕ) (c : length os ≡ n) (l : n ≤ 64) where
    by_width : mask_of class os ≡ field_at (λ k. one (has class os k)) 0 (n + (64 - n))
    unfolding mask_of
    by_width = let w : 64 ≡ n + (64 - n) = omega arith in ap (λ (w : ℕ). field_at (λ k. one (has class os k)) 0 w) w

    front : mask_of class os / 2 ^ (64 - n) ≡ field_at (λ k. one (has class os k)) 0 n
    front = rw by_width (field_front (λ k. one (has class os k)) bit_lt 0 n (64 - n))

    rest : field_at (λ k. one (has class os k)) (0 + n) (64 - n) ≡ 0
    rest = field_none (λ k. one (has class os k)) (0 + n) (64 - n) (λ i a b. past_none i (omega arith))

    -- the bits of the n identities, and zeros
    pub by_count : mask_of class os ≡ field_at (λ k. one (has class os k)) 0 n * 2 ^ (64 - n)
    by_count = by_width ∙ field_split (λ k. one (has class os k)) 0 n (64 - n) ∙ rw rest (add-zero _)

    whole : mask_of class os / 2 ^ (64 - n) * 2 ^ (64 - n) ≡ mask_of class os
    whole = rw front (sym by_count)

    -- a mask of n identities has no bit beyond the n-th
    pub mask_fits : (mask_c n).ok (mask_of class os) ≡ true
    unfolding mask_c number
    mask_fits = both_true _ _ (eq-eqb _ _ whole) (lt-ltb (mask_of class os / 2 ^ (64 - n)) (2 ^ n) (rw front (field_lt (λ k. one (has class os k)) bit_lt 0 n)))

-- ---- each identity is in exactly one of the three masks

one_of : (o : ℕ) → o < 3 → one (eqb o 0) + one (eqb o 1) + one (eqb o 2) ≡ 1
one_of zero h = refl
one_of (suc zero) h = refl
one_of (suc (suc zero)) h = refl
one_of (suc (suc (suc o))) h = absurd (omega arith)

module _ (air : Air) (g : Group) (rows : List Record) (post i : ℕ) (h : i < length (outcomes_of air g rows post)) where
  pub mask_parts :
      mask_of 0 (outcomes_of air g rows post) / 2 ^ (63 - i) % 2
      + mask_of 1 (outcomes_of air g rows post) / 2 ^ (63 - i) % 2
      + mask_of 2 (outcomes_of air g rows post) / 2 ^ (63 - i) % 2
      ≡ 1
  mask_parts =
      let l = outcomes_le air g rows post in
      let k : i < count_of air g = rw (outcomes_count air g rows post) at h in
      rw (mask_at 0 (outcomes_of air g rows post) i h l, mask_at 1 (outcomes_of air g rows post) i h l, mask_at 2 (outcomes_of air g rows post) i h l)
      (one_of (get_or (outcomes_of air g rows post) i 0) (rw (outcome_at air g rows post i k) (outcome_lt rows post _ (identity_at air g i))))

-- a mask of a group's outcomes is one that an ACK for the group may carry
pub mask_carried : (air : Air) (g : Group) (rows : List Record) (post class : ℕ) → span_of air g ≤ 64
    → (mask_c (span_of air g)).ok (mask_of class (outcomes_of air g rows post)) ≡ true
mask_carried air g rows post class l =
    let n : length (outcomes_of air g rows post) ≡ span_of air g = omega (arith, length_outcomes air g rows post) in
    mask_fits class (outcomes_of air g rows post) (span_of air g) n l

-- ---- an outcome is there exactly if its mask is not 0

or_no : (a b : Bool) → (a || b) ≡ false → (a ≡ false) × (b ≡ false)
or_no true b e = not_both (sym e)
or_no false b e = (refl, e)

none_out : (class : ℕ) (os : List ℕ) → some_of class os ≡ false → (i : ℕ) → i < length os → eqb (get_or os i 0) class ≡ false
unfolding some_of
none_out class [] e i h = absurd (not-suc-le-zero h)
none_out class (o ∷ os) e zero h = (or_no (eqb o class) (some_of class os) e).0
none_out class (o ∷ os) e (suc i) h = none_out class os (or_no (eqb o class) (some_of class os) e).1 i (le_of_suc-le-suc h)

none_has : (class : ℕ) (os : List ℕ) → some_of class os ≡ false → (i : ℕ) → one (has class os i) ≡ 0
unfolding has both
none_has class os e i = ⊎_elim (λ h. rw (lt-ltb i (length os) h, none_out class os e i h)) (past_none class os i) (lt_or i (length os))

some_out : (class : ℕ) (os : List ℕ) → some_of class os ≡ true → (i : ℕ) × ((i < length os) × (eqb (get_or os i 0) class ≡ true))
unfolding some_of
some_out class [] e = not_both e
some_out class (o ∷ os) e = go (eqb o class) refl (λ f. some_out class os f)
  where
    go : (b : Bool) → eqb o class ≡ b → (some_of class os ≡ true → (i : ℕ) × ((i < length os) × (eqb (get_or os i 0) class ≡ true)))
        → (i : ℕ) × ((i < suc (length os)) × (eqb (get_or (o ∷ os) i 0) class ≡ true))
    go true f r = (0, (omega arith, f))
    go false f r = let s = r (rw f at e) in (suc s.0, (omega (arith, s.1.0), s.1.1))

module _ (class : ℕ) (os : List ℕ) (l : length os ≤ 64) where
  none_mask : some_of class os ≡ false → mask_of class os ≡ 0
  unfolding mask_of
  none_mask e = field_none (λ k. one (has class os k)) 0 64 (λ i a b. none_has class os e i)

  mask_not : some_of class os ≡ true → mask_of class os ≡ 0 → ⊥
  mask_not e z =
      let s = some_out class os e in
      let bit : 0 / 2 ^ (63 - s.0) % 2 ≡ 1 = rw (z, s.1.1) at (mask_at class os s.0 s.1.0 l) in
      let none : 0 / 2 ^ (63 - s.0) ≡ 0 = zero-div (2 ^ (63 - s.0)) in
      omega arith

  pub some_mask : some_of class os ≡ not (eqb (mask_of class os) 0)
  some_mask = go (some_of class os) refl
    where
      go : (b : Bool) → some_of class os ≡ b → b ≡ not (eqb (mask_of class os) 0)
      go true e = rw (ne_eqb (mask_of class os) 0 (mask_not e))
      go false e = rw (eq-eqb (mask_of class os) 0 (none_mask e))
