-- Reading a message: document 01's order, 1, then 3, then along the bits, then 13.
use Rattle.std.specs.Prelude.{ℕ, ◌*◌, Bool, cond, not, ◌||◌, List, [], ◌∷◌, ◌++◌, eqb, leb, length}
use Rattle.bits.specs.Fields.{bit_at}
use Rattle.codec.specs.Stops.{refusal}
use Rattle.codec.specs.Codec.{Along, asks, Ground, grounds_of, Codec, Read, got, no, bind, afterwards, both}
use Rattle.profile.specs.Rules.{profile_ok}
use Rattle.profile.specs.declared.Air.{Air}
use Rattle.profile.specs.declared.Profile.{Profile}
use Rattle.message.specs.Messages.{message_c}
use Rattle.message.specs.declared.Value.{Value}

-- C from the first of n bits, and nothing after it: 13 where bits are left over
abbrev pub whole : {A : Type 0} → Codec A → (ℕ → ℕ) → ℕ → Read A
whole C f n = bind (C.read f n 0) (λ a p. cond (eqb p n) (got a p) (no (refusal 13)))

unfoldable pub whole_of : Air → (ℕ → ℕ) → ℕ → Read Value
whole_of air f n = whole (message_c air) f n

-- 3 where this fails: some bits, at most 4,096, and no more than the bytes lent have
unfoldable pub length_ok : List ℕ → ℕ → Bool
length_ok l n = both (leb 1 n) (both (leb n 4096) (leb n (8 * length l)))

unfoldable pub read_bits : Air → List ℕ → ℕ → Read Value
read_bits air l n = cond (length_ok l n) (whole_of air (bit_at l) n) (no (refusal 3))

unfoldable pub read_of : Profile → List ℕ → ℕ → Read Value
read_of p l n = cond (profile_ok p) (read_bits p.air l n) (no (refusal 1))

-- ---- the grounds of its refusals, first to last

-- along the bits: each element before its content, 5 to 7 after the header, 9 after a range, 10 after a kind, 11 after the second address,
-- 12 after the last P-bit; and 13 where bits are left over
unfoldable pub bits_order : Air → (ℕ → ℕ) → ℕ → List Along
bits_order air f n = (message_c air).order f n 0 ++ afterwards ((message_c air).read f n 0) (λ v p. asks 13 (not (eqb p n)) ∷ [])

-- 1, 3, and what stands along the bits: 4 for each element that reaches past the length, with that element and where it begins
unfoldable pub reading_order : Profile → List ℕ → ℕ → List Ground
reading_order p l n = (refusal 1, not (profile_ok p)) ∷ ((refusal 3, not (length_ok l n)) ∷ grounds_of n (bits_order p.air (bit_at l) n))

-- the numbers that reading gives once 1 does not come: 3 to 13 without 8, and 27
unfoldable pub is_reading : ℕ → Bool
is_reading c = both (both (leb 3 c) (leb c 13)) (not (eqb c 8)) || eqb c 27
