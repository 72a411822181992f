-- The combinators computed, against readings worked out by hand from document 01's worked cases 4, 6 and 8: what INTERCEPTED has after
-- its header, whole, cut at each element, and refused. Assumes nothing.
use Prim.Native.Nat.{ℕ}
use mathlib.Core.Path.{◌≡◌, refl}
use mathlib.Core.Bool.{true, false, ◌||◌}
use mathlib.Core.List as list
use mathlib.Core.List.{List, [], ◌∷◌}
use lib.Dec.{eqb}
use Rattle.bits.specs.Fields.{bit_at, field_at}
use Rattle.bits.specs.Puts.{binary}
use Rattle.codec.specs.Stops.{short, refusal}
use Rattle.codec.specs.Codec.{Read, got, no, both, Codec, number, guard, seq, vec, vec_read}
use Rattle.codec.specs.Options.{flag, Optional, absent, there, is_there, is_absent, optional, options}

-- the elements by number
abbrev pub cause : ℕ
cause = 1

abbrev pub o_bit : ℕ
o_bit = 2

abbrev pub p_bit : ℕ
p_bit = 3

abbrev pub kind : ℕ
kind = 4

abbrev pub ssi : ℕ
ssi = 5

abbrev pub Party : Type 0
Party = ℕ × ℕ

-- a kind, 1 or 2, and an SSI
abbrev pub party_c : Codec Party
party_c = seq (guard 10 (λ k. eqb k 1 || eqb k 2) (number kind 2)) (λ _. number ssi 24)

-- a cause, and the option of a party
abbrev pub body_c : Codec (ℕ × Optional Party)
body_c = seq (number cause 5) (λ _. options o_bit absent is_absent is_there (optional p_bit party_c))

-- ---- reading

-- of these bytes, so many bits, this is read after the header's 11
pub data Case : Type 0 where
  reads : List ℕ → ℕ → Read (ℕ × Optional Party) → Case

abbrev pub gives : Case → Read (ℕ × Optional Party)
gives (reads l n r) = body_c.read (bit_at l) n 11

abbrev pub wants : Case → Read (ℕ × Optional Party)
wants (reads l n r) = r

abbrev pub case_4 : List ℕ
case_4 = 0x25 ∷ 0x40 ∷ 0x00 ∷ []

abbrev pub case_6 : List ℕ
case_6 = 0x25 ∷ 0x42 ∷ 0xD0 ∷ 0x00 ∷ 0x00 ∷ 0x10 ∷ []

abbrev pub cases : List Case
cases =
    reads case_4 17 (got (0, absent) 17)
    ∷ reads case_6 44 (got (2, there (1, 1)) 44)
    -- cut within each element
    ∷ reads case_6 43 (no (short ssi 20))
    ∷ reads case_6 20 (no (short ssi 20))
    ∷ reads case_6 19 (no (short kind 18))
    ∷ reads case_6 17 (no (short p_bit 17))
    ∷ reads case_6 16 (no (short o_bit 16))
    ∷ reads case_6 15 (no (short cause 11))
    -- the P-bit 0, which comes before the bits that are missing after it
    ∷ reads (0x25 ∷ 0x42 ∷ 0x90 ∷ []) 18 (no (refusal 12))
    -- kinds 3 and 0, likewise
    ∷ reads (0x25 ∷ 0x42 ∷ 0xF0 ∷ []) 20 (no (refusal 10))
    ∷ reads (0x25 ∷ 0x42 ∷ 0xC0 ∷ []) 20 (no (refusal 10))
    ∷ []

pub cases_right : list.map gives cases ≡ list.map wants cases
unfolding bit_at field_at number flag
cases_right = refl

-- case 8's two addresses, one after the other, and cut in the second
pub case_8_right : (vec 2 party_c).read (bit_at (0x24 ∷ 0x5E ∷ 0x80 ∷ 0x01 ∷ 0xF4 ∷ 0xA0 ∷ 0x00 ∷ 0x7D ∷ 0x80 ∷ [])) 68 15 ≡ got ((1, 1001) ∷ (1, 1004) ∷ []) 67
unfolding bit_at field_at number vec_read
case_8_right = refl

pub case_8_cut : (vec 2 party_c).read (bit_at (0x24 ∷ 0x5E ∷ 0x80 ∷ 0x01 ∷ 0xF4 ∷ 0xA0 ∷ 0x00 ∷ 0x7D ∷ 0x80 ∷ [])) 66 15 ≡ no (short ssi 43)
unfolding bit_at field_at number vec_read
case_8_cut = refl

-- ---- writing and validity

-- case 6 again: cause 2, O-bit, P-bit, kind 1, SSI 1
pub bits_right : body_c.bits (2, there (1, 1))
    ≡ 0 ∷ 0 ∷ 0 ∷ 1 ∷ 0 ∷ 1 ∷ 1 ∷ 0 ∷ 1
    ∷ 0 ∷ 0 ∷ 0 ∷ 0 ∷ 0 ∷ 0 ∷ 0 ∷ 0 ∷ 0 ∷ 0 ∷ 0 ∷ 0 ∷ 0 ∷ 0 ∷ 0 ∷ 0 ∷ 0 ∷ 0 ∷ 0 ∷ 0 ∷ 0 ∷ 0 ∷ 0 ∷ 1 ∷ []
unfolding binary number flag
bits_right = refl

pub absent_right : body_c.bits (0, absent) ≡ 0 ∷ 0 ∷ 0 ∷ 0 ∷ 0 ∷ 0 ∷ []
unfolding binary number flag
absent_right = refl

-- a cause over its width and a kind of 3 are not valid
pub valid_right : list.map (λ x. body_c.ok x) ((2, there (1, 1)) ∷ (0, absent) ∷ (32, absent) ∷ (2, there (3, 1)) ∷ []) ≡ true ∷ true ∷ false ∷ false ∷ []
unfolding both number flag
valid_right = refl

-- ---- two options under one O-bit

abbrev pub Two : Type 0
Two = Optional ℕ × Optional ℕ

-- an area and a service
abbrev pub two_c : Codec Two
two_c =
    options o_bit (absent, absent) (λ x. both (is_absent x.0) (is_absent x.1)) (λ x. is_there x.0 || is_there x.1)
    (seq (optional p_bit (number kind 4)) (λ _. optional p_bit (number ssi 2)))

-- neither (O-bit 0), the first alone, the second alone, both but cut in the second, and none after an O-bit of 1: 12, after the last P-bit
pub two_right : list.map (λ (x : ℕ × ℕ). two_c.read (bit_at (x.0 ∷ [])) x.1 0) ((0x00, 1) ∷ (0xD4, 7) ∷ (0xB8, 5) ∷ (0xD6, 8) ∷ (0x80, 3) ∷ (0x80, 2) ∷ [])
    ≡ got (absent, absent) 1 ∷ got (there 5, absent) 7 ∷ got (absent, there 3) 5 ∷ no (short ssi 7) ∷ no (refusal 12) ∷ no (short p_bit 2) ∷ []
unfolding bit_at field_at number flag
two_right = refl

pub two_written : list.map (λ (x : Two). two_c.bits x) ((absent, absent) ∷ (there 5, absent) ∷ (absent, there 3) ∷ [])
    ≡ (0 ∷ []) ∷ (1 ∷ 1 ∷ 0 ∷ 1 ∷ 0 ∷ 1 ∷ 0 ∷ []) ∷ (1 ∷ 0 ∷ 1 ∷ 1 ∷ 1 ∷ []) ∷ []
unfolding binary number flag
two_written = refl
