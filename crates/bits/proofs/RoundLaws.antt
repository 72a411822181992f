-- The laws of reading and writing a field, each once over the width:
--     read-put       reading what was put gives the number, if it fits
--     put-read       putting what was read changes nothing
--     put-apart      a field beside the one that is put reads as before
--     byte-apart     a byte beside it is as before
--     length-put     (PutLaws) the list keeps its length
--     pad-there      (PutLaws) the spare bits of a byte are put as zeros
--     field-lt       (FieldLaws) a number read is below 2 ^ w
-- Assumes nothing.
use Prim.Native.Nat.{ℕ, zero, suc, ◌+◌, ◌*◌, ◌/◌, ◌%◌, ◌^◌, ◌≤◌, ◌<◌}
use mathlib.Core.Path.{◌≡◌, refl, ◌∙◌}
use mathlib.Core.List.{List, [], ◌∷◌}
use mathlib.Core.Logic.{inl, inr, ⊎_elim}
use native.Mathlib.Nat.{mod-lt, zero-lt-suc, pow-suc}
use native.Mathlib.Omega.{arith}
use lib.ListN.{length, get_or}
use Rattle.bits.specs.Fields.{bit_at, field_at, field_of}
use Rattle.bits.specs.Puts.{put_bits, binary, put_of}
use Rattle.bits.proofs.FieldLaws.{bit_lt, field_same, field_is}
use Rattle.bits.proofs.PutLaws.{length_binary, put_there, put_wide, put_past}
use Rattle.bits.proofs.SetLaws.{lt_or}
use Rattle.bits.proofs.Stands.{AreBits, Stands, Apart, bits_join, stands_left, stands_right, stands_join, put_other, byte_other, put_stands, put_standing}

pub binary_bits : (w v : ℕ) → AreBits (binary w v)
unfolding binary
binary_bits zero v = tt
binary_bits (suc w) v = bits_join (binary w (v / 2)) (v % 2 ∷ []) (binary_bits w (v / 2)) (mod-lt v (zero-lt-suc 1), tt)

-- what stands as the bits of v is read as v
pub read_binary : (f : ℕ → ℕ) (at w v : ℕ) → v < 2 ^ w → Stands f at (binary w v) → field_at f at w ≡ v
unfolding binary field_at
read_binary f at zero v h s = omega arith
read_binary f at (suc w) v h s =
    let h' : v < 2 ^ w * 2 = rw pow-suc at h in
    let hi : field_at f at w ≡ v / 2 = read_binary f at w (v / 2) (omega arith) (stands_left f at (binary w (v / 2)) (v % 2 ∷ []) s) in
    let lo : f (at + w) ≡ v % 2 = rw length_binary at (stands_right f at (binary w (v / 2)) (v % 2 ∷ []) s).0 in
    omega arith

-- what is read stands there as the bits of the number read
pub binary_read : (f : ℕ → ℕ) → ((i : ℕ) → f i < 2) → (at w : ℕ) → Stands f at (binary w (field_at f at w))
unfolding binary field_at
binary_read f h at zero = tt
binary_read f h at (suc w) =
    let b = h (at + w) in
    let q : (field_at f at w * 2 + f (at + w)) / 2 ≡ field_at f at w = omega arith in
    let m : (field_at f at w * 2 + f (at + w)) % 2 ≡ f (at + w) = omega arith in
    rw (q, m) (stands_join f at (binary w (field_at f at w)) (f (at + w) ∷ []) (binary_read f h at w) (rw length_binary (refl, tt)))

-- ---- the laws

module _ (l : List ℕ) (at w : ℕ) where
  pub read_put : (v : ℕ) → at + w ≤ 8 * length l → v < 2 ^ w → field_at (bit_at (put_bits l at (binary w v))) at w ≡ v
  read_put v k h = read_binary _ at w v h (put_stands l at (binary w v) (binary_bits w v) (rw length_binary k))

  pub put_read : put_bits l at (binary w (field_at (bit_at l) at w)) ≡ l
  put_read = put_standing l at (binary w (field_at (bit_at l) at w)) (binary_read (bit_at l) (bit_lt l) at w)

  pub put_apart : (v from n : ℕ) → at + w ≤ 8 * length l → Apart at w from n → field_at (bit_at (put_bits l at (binary w v))) from n ≡ field_at (bit_at l) from n
  put_apart v from n k p =
      field_same _ (bit_at l) from n (λ i h j. put_other l at (binary w v) (binary_bits w v) (rw length_binary k) i (rw length_binary (⊎_elim (λ x. inl (omega arith)) (λ y. inr (omega arith)) p)))

  pub byte_apart : (v j : ℕ) → Apart at w (8 * j) 8 → get_or (put_bits l at (binary w v)) j 0 ≡ get_or l j 0
  byte_apart v j p = byte_other l at (binary w v) j (rw length_binary p)

-- ---- the same of what the functions leave

-- `put`, then `field`
pub field_put : (l : List ℕ) (at w v : ℕ) → w ≤ 64 → at + w ≤ 8 * length l → v < 2 ^ w → field_of (put_of l at w v) at w ≡ v
field_put l at w v hw k h = rw (put_there l at w v hw k) (field_is _ at w hw ∙ read_put l at w v k h)

-- `field`, then `put`: no byte changes, whatever the position and the width
pub put_field : (l : List ℕ) (at w : ℕ) → put_of l at w (field_of l at w) ≡ l
put_field l at w = ⊎_elim (λ wide. put_wide l at w _ wide) (λ hw. ⊎_elim (λ past. put_past l at w _ hw past) (there hw) (lt_or (8 * length l) (at + w))) (lt_or 64 w)
  where
    there : w ≤ 64 → at + w ≤ 8 * length l → put_of l at w (field_of l at w) ≡ l
    there hw k = put_there l at w _ hw k ∙ rw (field_is l at w hw) (put_read l at w)
