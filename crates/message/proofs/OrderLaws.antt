-- Each refusal of reading comes exactly when its ground holds and no earlier one along the bits does. Assumes nothing.
use Prim.Native.Nat.{ℕ}
use mathlib.Core.Path.{refl}
use mathlib.Core.Bool.{Bool, true, false, not, cond}
use mathlib.Core.List.{List, ◌∷◌}
use lib.Dec.{eqb}
use Rattle.bits.specs.Fields.{bit_at}
use Rattle.bits.proofs.FieldLaws.{bit_lt}
use Rattle.codec.specs.Stops.{refusal}
use Rattle.codec.specs.Codec.{Ground, both, first_of, none_of, grounds_of, Read, got, no}
use Rattle.codec.proofs.Good.{Told}
use Rattle.codec.proofs.GroundLaws.{told_then, told_test}
use Rattle.profile.specs.Rules.{profile_ok}
use Rattle.profile.specs.declared.Air.{Air}
use Rattle.profile.specs.declared.Profile.{Profile}
use Rattle.message.specs.Messages.{message_c}
use Rattle.message.specs.Reading.{whole_of, length_ok, read_bits, read_of, bits_order, reading_order}
use Rattle.message.specs.declared.Value.{Value}
use Rattle.message.proofs.MessageLaws.{good_message}

bits_told : (air : Air) (l : List ℕ) (n : ℕ) → Told (grounds_of n (bits_order air (bit_at l) n)) (whole_of air (bit_at l) n)
unfolding bits_order whole_of
bits_told air l n =
    told_then n ((message_c air).order (bit_at l) n 0) _ _ ((message_c air).read (bit_at l) n 0) ((good_message air).told (bit_at l) n (bit_lt l) 0) (λ v p e. told_test n 13 (eqb p n) v p)

-- a ground before the others
told_before : (c : ℕ) (b : Bool) (g : List Ground) (r : Read Value) → Told g r → Told ((refusal c, not b) ∷ g) (cond b r (no (refusal c)))
unfolding none_of first_of both
told_before c true g (got v p) t = t
told_before c true g (no s) t = t
told_before c false g r t = (refl, refl)

-- of every profile, every bytes and every length: a value is read exactly if no ground holds, and else the first that holds gives the refusal,
-- its number and, with a 4, its element and position
pub reading_exact : (p : Profile) (l : List ℕ) (n : ℕ) → Told (reading_order p l n) (read_of p l n)
unfolding read_of read_bits reading_order
reading_exact p l n = told_before 1 (profile_ok p) _ (read_bits p.air l n) (told_before 3 (length_ok l n) _ (whole_of p.air (bit_at l) n) (bits_told p.air l n))
