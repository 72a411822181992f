-- Where a message broke off (document 02, (ii)): for every profile, all bytes and every length. Assumes nothing.
--     broke-off        a 4 has the first element along the bits that reaches past the length, and where it begins
--     one-bit-shorter  one bit less, still within that element, gives the same refusal
--     carries-neither  any other refusal has neither element nor position
--     position-most    the position is at most 4,096
use Prim.Native.Nat.{ℕ, suc, ◌+◌, ◌*◌, ◌≤◌, ◌<◌}
use mathlib.Core.Path.{◌≡◌, refl, sym, ◌∙◌, subst}
use mathlib.Core.Bool.{Bool, true, false, not, cond}
use mathlib.Core.List.{List, [], ◌∷◌, ◌++◌}
use native.Mathlib.Omega.{arith}
use lib.Dec.{eqb, leb}
use lib.ListN.{length}
use borrow.Author.Tests.{le-leb, leb-true, eqb-true}
use Rattle.bits.specs.Fields.{bit_at}
use Rattle.bits.proofs.FieldLaws.{bit_lt}
use Rattle.codec.specs.Stops.{refusal}
use Rattle.codec.specs.Codec.{Along, asks, Read, got, no, bind, afterwards}
use Rattle.codec.specs.Options.{there}
use Rattle.codec.specs.Breaks.{first_past}
use Rattle.codec.specs.declared.Stop.{Stop}
use Rattle.codec.proofs.Good.{both_true, both_left, both_right, not_both, Plain, Ended, came, failed, broke}
use Rattle.codec.proofs.BreakLaws.{past_some, plain_refusal}
use Rattle.profile.specs.Rules.{profile_ok}
use Rattle.profile.specs.declared.Profile.{Profile}
use Rattle.message.specs.Messages.{message_c}
use Rattle.message.specs.Reading.{whole_of, length_ok, read_bits, read_of, bits_order}
use Rattle.message.specs.declared.Value.{Value}
use Rattle.message.proofs.MessageLaws.{good_message}

-- the reading of n bits broke off with s: its element is the first along the bits that reaches past the length, it begins at its position,
-- which is at most the length, and every length that ends within it gives s
pub record Broke (p : Profile) (l : List ℕ) (n : ℕ) (s : Stop) : Type 0 where
  pub width : ℕ
  pub first : first_past n (bits_order p.air (bit_at l) n) ≡ there (record { element = s.element; at = s.at; width = width })
  pub past : n < s.at + width
  pub within : s.at ≤ n
  pub same : (m : ℕ) → s.at ≤ m → m < s.at + width → length_ok l m ≡ true → read_of p l m ≡ no s

-- what a refusal of n bits may be
pub data Refusal (p : Profile) (l : List ℕ) (n : ℕ) (s : Stop) : Type 0 where
  broken : s.number ≡ 4 → Broke p l n s → Refusal p l n s
  plain : Plain s → Refusal p l n s

module _ (p : Profile) (l : List ℕ) (n : ℕ) where
  abbrev Refuses : Read Value → Type 0
  Refuses (got v q) = Unit
  Refuses (no s) = Refusal p l n s

  module _ (ok : profile_ok p ≡ true) where
    read_again : (m : ℕ) (s : Stop) → length_ok l m ≡ true → (message_c p.air).read (bit_at l) m 0 ≡ no s → read_of p l m ≡ no s
    unfolding read_of read_bits whole_of
    read_again m s h e = rw (ok, h, e)

    along_refused : (g : List Along) (r : Read Value) → Ended (message_c p.air) (bit_at l) n 0 g r
        → first_past n (g ++ afterwards r (λ v q. asks 13 (not (eqb q n)) ∷ [])) ≡ first_past n (bits_order p.air (bit_at l) n)
        → Refuses (bind r (λ v q. cond (eqb q n) (got v q) (no (refusal 13))))
    along_refused g (no s) (failed _ z) k = plain z
    along_refused g (no s) (broke _ b) k =
        broken b.four
        (record {
          width = b.width;
          first = sym k ∙ past_some n [] g _ b.first;
          past = b.past;
          within = b.within (omega arith);
          same = λ m i j h. read_again m s h (b.same m i j);
        })
    along_refused g (got v q) (came _ _ w) k = go (eqb q n)
      where
        go : (b : Bool) → Refuses (cond b (got v q) (no (refusal 13)))
        go true = tt
        go false = plain (plain_refusal 13 refl)

    bits_refused : Refuses (whole_of p.air (bit_at l) n)
    unfolding whole_of bits_order
    bits_refused =
        along_refused ((message_c p.air).order (bit_at l) n 0) ((message_c p.air).read (bit_at l) n 0) ((good_message p.air).ended (bit_at l) n (bit_lt l) 0) refl

  read_refused : Refuses (read_of p l n)
  unfolding read_of read_bits
  read_refused = go (profile_ok p) refl (length_ok l n)
    where
      go : (b : Bool) → profile_ok p ≡ b → (c : Bool) → Refuses (cond b (cond c (whole_of p.air (bit_at l) n) (no (refusal 3))) (no (refusal 1)))
      go true ok true = bits_refused ok
      go true ok false = plain (plain_refusal 3 refl)
      go false ok c = plain (plain_refusal 1 refl)

  module _ (s : Stop) (e : read_of p l n ≡ no s) where
    refusal_is : Refusal p l n s
    refusal_is = subst Refuses e read_refused

    pub broke_off : s.number ≡ 4 → Broke p l n s
    broke_off four = go refusal_is
      where
        go : Refusal p l n s → Broke p l n s
        go (broken _ b) = b
        go (plain z) = not_both (sym z.0 ∙ rw four)

    pub carries_neither : eqb s.number 4 ≡ false → s ≡ refusal s.number
    carries_neither other = go refusal_is
      where
        go : Refusal p l n s → s ≡ refusal s.number
        go (broken four _) = not_both (sym other ∙ rw four)
        go (plain z) = z.1

at_most : (c : ℕ) → (refusal c).at ≤ 4096
unfolding refusal
at_most c = omega arith

-- a length that is one bit less is good too, if it is not 0
shorter_length : (l : List ℕ) (n : ℕ) → 1 ≤ n → length_ok l (suc n) ≡ true → length_ok l n ≡ true
unfolding length_ok
shorter_length l n h e =
    let most = leb-true (suc n) 4096 (both_left _ _ (both_right (leb 1 (suc n)) _ e)) in
    let lent = leb-true (suc n) (8 * length l) (both_right (leb (suc n) 4096) _ (both_right (leb 1 (suc n)) _ e)) in
    both_true _ _ (le-leb 1 n h) (both_true _ _ (le-leb n 4096 (omega (arith, most))) (le-leb n (8 * length l) (omega (arith, lent))))

module _ (p : Profile) (l : List ℕ) (n : ℕ) (s : Stop) where
  -- what gives a 4 is of a good length
  short_length : read_of p l n ≡ no s → s.number ≡ 4 → length_ok l n ≡ true
  unfolding read_of read_bits refusal
  short_length e four = go (profile_ok p) (length_ok l n) refl e
    where
      go : (b c : Bool) → length_ok l n ≡ c → cond b (cond c (whole_of p.air (bit_at l) n) (no (refusal 3))) (no (refusal 1)) ≡ no s → length_ok l n ≡ true
      go true true h z = h
      go true false h z = let y : ◌≡◌ {A = ℕ} 3 4 = cc in absurd (omega arith)
      go false c h z = let y : ◌≡◌ {A = ℕ} 1 4 = cc in absurd (omega arith)

  -- the position is at most 4,096, so it fits everywhere it is handed to
  pub position_most : read_of p l n ≡ no s → s.at ≤ 4096
  unfolding length_ok
  position_most e = go (eqb s.number 4) refl
    where
      go : (b : Bool) → eqb s.number 4 ≡ b → s.at ≤ 4096
      go true z =
          let four = eqb-true s.number 4 z in
          let most = leb-true n 4096 (both_left _ _ (both_right (leb 1 n) _ (short_length e four))) in
          omega (arith, (broke_off p l n s e four).within, most)
      go false z = subst (λ (t : Stop). t.at ≤ 4096) (sym (carries_neither p l n s e z)) (at_most s.number)

pub one_bit_shorter : (p : Profile) (l : List ℕ) (n : ℕ) (s : Stop) → 1 ≤ n → read_of p l (suc n) ≡ no s → s.number ≡ 4 → s.at ≤ n → read_of p l n ≡ no s
one_bit_shorter p l n s h e four k =
    let b = broke_off p l (suc n) s e four in
    b.same n k (omega (arith, b.past)) (shorter_length l n h (short_length p l (suc n) s e four))
