-- What the readers go by: bounds of what was read, a kind, the loops over addresses and areas, the mask in its place. Assumes nothing.
use Prim.Native.Nat.{ℕ, suc, ◌+◌, ◌-◌, ◌*◌, ◌/◌, ◌%◌, ◌≤◌, ◌<◌, ◌^◌}
use mathlib.Core.Path.{◌≡◌, refl, sym, ◌∙◌}
use mathlib.Core.Bool.{Bool, true, false, not, cond}
use mathlib.Core.List.{List, ◌∷◌}
use native.Mathlib.Nat.{zero-mul, lt_of_lt_of_le}
use native.Mathlib.Numerals.{add-one}
use native.Mathlib.Omega.{arith}
use lib.Dec.{eqb}
use lib.ListN.{set}
use lib.Pow.{pow_mono, shl_exact}
use lib.Seq.{sets}
use Rattle.bits.specs.Fields.{bit_at, field_of}
use Rattle.bits.proofs.FieldLaws.{field_is, field_below, field_split}
use borrow.Author.Tests.{eqb-true}
use Rattle.codec.specs.Stops.{short, refusal}
use Rattle.codec.specs.Codec.{Codec, Read, got, no, bind, both, number, vec_read}
use Rattle.codec.specs.Taking.{take_of}
use Rattle.codec.specs.declared.Stop.{Stop}
use Rattle.codec.proofs.RoundTrips.{read_found, number_lt}
use Rattle.codec.proofs.TakeLaws.{take_number, take_past, take_there}
use Rattle.profile.specs.Rules.{meaning_in}
use Rattle.profile.specs.declared.Air.{Air}
use Rattle.message.specs.Elements as element
use Rattle.message.specs.Addresses.{is_kind, is_internal, kind_c}
use Rattle.message.specs.Groups.{addresses_in, range_c}
use Rattle.message.proofs.GroupLaws.{good_range, range_allowed, few_addresses}
use Rattle.message.specs.Messages.{is_known, is_carried, header_c}
use Rattle.reading.specs.Parts.{no_kind, judged_of}

-- ---- take, with a width that it can have

module _ (e : ℕ) (l : List ℕ) (n at w : ℕ) where
  pub took_number : (r : Read ℕ) → r ≡ take_of e l n at w → w ≤ 64 → r ≡ (number e w).read (bit_at l) n at
  took_number r took h = took ∙ take_number e l n at w h

  pub took_lt : (v p k : ℕ) → got v p ≡ take_of e l n at w → w ≤ k → k ≤ 64 → v < 2 ^ k
  took_lt v p k took h m = lt_of_lt_of_le (number_lt e l n at w v p (sym (took_number (got v p) took (omega arith)))) (pow_mono h)

  pub word_fits : (v p : ℕ) → got v p ≡ take_of e l n at w → w ≤ 32 → v < 2 ^ 32
  word_fits v p took h = took_lt v p 32 took h (omega arith)

-- ---- a number of few bits, by its field

module _ (e : ℕ) (l : List ℕ) (n at w : ℕ) (h : w ≤ 64) where
  pub number_short : n < at + w → (number e w).read (bit_at l) n at ≡ no (short e at)
  number_short k = sym (take_number e l n at w h) ∙ take_past e l n at w h k

  pub number_there : at + w ≤ n → (number e w).read (bit_at l) n at ≡ got (field_of l at w) (at + w)
  number_there k = sym (take_number e l n at w h) ∙ take_there e l n at w h k

pub field_fits : (l : List ℕ) (at w v : ℕ) → w ≤ 8 → v ≡ field_of l at w → v < 2 ^ 8
field_fits l at w v h e = rw (e, field_is l at w (omega arith)) (field_below 8 l at w h)

-- ---- the header, by its eleven bits

module _ (ss : ℕ) (l : List ℕ) (n at : ℕ) where
  -- the tests of the header one after the other
  abbrev carried_or : Read (ℕ × ℕ) → Read (ℕ × ℕ)
  carried_or r = bind r (λ y q. cond (is_carried y.1) (got y q) (no (refusal 7)))

  abbrev known_or : Read (ℕ × ℕ) → Read (ℕ × ℕ)
  known_or r = bind r (λ y q. cond (is_known y.1) (got y q) (no (refusal 6)))

  known : (x t p : ℕ) (b : Bool) → carried_or (cond b (got (x, t) p) (no (refusal 6))) ≡ cond b (cond (is_carried t) (got (x, t) p) (no (refusal 7))) (no (refusal 6))
  known x t p true = refl
  known x t p false = refl

  judge : (x t p : ℕ) (a : Bool)
      → carried_or (known_or (cond a (got (x, t) p) (no (refusal 5)))) ≡ cond a (cond (is_known t) (cond (is_carried t) (got (x, t) p) (no (refusal 7))) (no (refusal 6))) (no (refusal 5))
  judge x t p true = known x t p (is_known t)
  judge x t p false = refl

  pub header_no_ss : n < at + 6 → (header_c ss).read (bit_at l) n at ≡ no (short element.ss_type at)
  unfolding header_c
  header_no_ss h = rw (number_short element.ss_type l n at 6 (omega arith) h)

  pub header_no_pdu : at + 6 ≤ n → n < at + 11 → (header_c ss).read (bit_at l) n at ≡ no (short element.pdu_type (at + 6))
  unfolding header_c
  header_no_pdu h k = rw (number_there element.ss_type l n at 6 (omega arith) h, number_short element.pdu_type l n (at + 6) 5 (omega arith) (omega arith))

  head_is : (v : ℕ) → v ≡ field_of l at 11 → v ≡ field_of l at 6 * 32 + field_of l (at + 6) 5
  head_is v e =
      e ∙ field_is l at 11 (omega arith) ∙ field_split (bit_at l) at 6 5
      ∙ rw (field_is l at 6 (omega arith), field_is l (at + 6) 5 (omega arith))

  type_few : field_of l (at + 6) 5 < 32
  type_few = rw (field_is l (at + 6) 5 (omega arith)) (field_below 5 l (at + 6) 5 (omega arith))

  ss_few : field_of l at 6 < 64
  ss_few = rw (field_is l at 6 (omega arith)) (field_below 6 l at 6 (omega arith))

  module _ (v : ℕ) (e : v ≡ field_of l at 11) where
    head_ss : v / 32 ≡ field_of l at 6
    head_ss = omega (arith, head_is v e, type_few)

    head_type : v % 32 ≡ field_of l (at + 6) 5
    head_type = omega (arith, head_is v e, type_few)

    pub head_fits : v / 32 < 256
    head_fits = omega (arith, head_ss, ss_few)

    pub header_read : at + 11 ≤ n → (header_c ss).read (bit_at l) n at ≡ judged_of ss (v / 32) (v % 32) (at + 11)
    unfolding header_c judged_of
    header_read h =
        let z : at + 6 + 5 ≡ at + 11 = omega arith in
        rw (number_there element.ss_type l n at 6 (omega arith) (omega arith), number_there element.pdu_type l n (at + 6) 5 (omega arith) (omega arith), z, ← head_ss, ← head_type)
        (judge (v / 32) (v % 32) (at + 11) (eqb (v / 32) ss))

-- ---- a range and a group that were read

pub range_few : (air : Air) (none : Bool) (l : List ℕ) (n at r p : ℕ) → got r p ≡ (range_c air none).read (bit_at l) n at → addresses_in (meaning_in air.meanings r) ≤ 15
range_few air none l n at r p e =
    few_addresses none (meaning_in air.meanings r) (range_allowed air none r (read_found (range_c air none) (good_range air none) l n at r p (sym e)).valid)

-- ---- a kind

abbrev kind_or : Bool → ℕ → ℕ → Read ℕ
kind_or external k p = cond (is_kind k) (got k p) (no (refusal (no_kind external k)))

external_kind : (b : Bool) (k p : ℕ) → eqb k 3 ≡ b
    → bind (cond (not b) (got k p) (no (refusal 27))) (λ j q. cond (is_kind j) (got j q) (no (refusal 10))) ≡ cond (is_kind k) (got k p) (no (refusal (cond b 27 10)))
external_kind true k p e = rw (eqb-true k 3 e)
external_kind false k p e = refl

-- one test after another, as one
pub kind_read : (external : Bool) (f : ℕ → ℕ) (n at : ℕ) → (kind_c external).read f n at ≡ bind ((number element.kind 2).read f n at) (λ k p. kind_or external k p)
unfolding kind_c no_kind both
kind_read true f n at = go ((number element.kind 2).read f n at)
  where
    go : (r : Read ℕ)
        → bind (bind r (λ k p. cond (is_internal k) (got k p) (no (refusal 27)))) (λ k p. cond (is_kind k) (got k p) (no (refusal 10)))
        ≡ bind r (λ k p. cond (is_kind k) (got k p) (no (refusal (cond (eqb k 3) 27 10))))
    go (got k p) = external_kind (eqb k 3) k p refl
    go (no s) = refl
kind_read false f n at = refl

-- ---- a loop that reads k of C into fifteen places, one after the other

module _ {A : Type 0} (C : Codec A) where
  -- what is left to read, into the places from i on of l
  abbrev pub fill : List A → ℕ → Read (List A) → Read (List A)
  fill l i r = bind r (λ xs q. got (sets l i xs) q)

  fill_cons : (l : List A) (i : ℕ) (a : A) (r : Read (List A)) → fill l i (bind r (λ xs q. got (a ∷ xs) q)) ≡ fill (set l i a) (suc i) r
  fill_cons l i a (got xs q) = refl
  fill_cons l i a (no s) = refl

  module _ (f : ℕ → ℕ) (n : ℕ) (l : List A) (at count i : ℕ) (h : i < count) where
    more : count - i ≡ suc (count - (i + 1))
    more = omega arith

    pub turn : (a : A) (p : ℕ) → got a p ≡ C.read f n at → fill l i (vec_read C (count - i) f n at) ≡ fill (set l i a) (i + 1) (vec_read C (count - (i + 1)) f n p)
    unfolding vec_read
    turn a p e = rw (more, ← e, fill_cons l i a, ← add-one i)

    pub turn_stop : (s : Stop) → no s ≡ C.read f n at → fill l i (vec_read C (count - i) f n at) ≡ no s
    unfolding vec_read
    turn_stop s e = rw (more, ← e)

  pub turns_end : (f : ℕ → ℕ) (n : ℕ) (l : List A) (at count i : ℕ) → count ≤ i → fill l i (vec_read C (count - i) f n at) ≡ got l at
  unfolding vec_read
  turns_end f n l at count i h = let z : count - i ≡ 0 = omega arith in rw z

-- ---- a mask in its place

pub aligned_none : (v n : ℕ) → v < 2 ^ n → n ≡ 0 → 0 ≡ v * 2 ^ (64 - n)
aligned_none v n h e = let z : v ≡ 0 = zero_of (rw e at h) in rw z (sym (zero-mul (2 ^ (64 - n))))
  where
    zero_of : v < 2 ^ 0 → v ≡ 0
    zero_of k = omega arith

pub aligned_some : (v n : ℕ) → v < 2 ^ n → n ≤ 64 → (v * 2 ^ (64 - n)) % 2 ^ 64 ≡ v * 2 ^ (64 - n)
aligned_some v n h k = shl_exact n (64 - n) 64 h (omega arith)

-- ---- what the proofs of a file go by

pub ruleset element_laws = (number_short, number_there, field_fits, took_number, word_fits)

pub ruleset ack_laws = (took_number, took_lt, aligned_none, aligned_some)

pub ruleset header_laws = (header_no_ss, header_no_pdu, head_fits, header_read)
