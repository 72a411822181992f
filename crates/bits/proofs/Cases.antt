-- Fields, puts and pads computed, against numbers and bytes worked out by hand from document 01's worked cases 1 to 8, and at the
-- ends of the widths and of the bytes. Assumes nothing.
use Prim.Native.Nat.{ℕ}
use mathlib.Core.Path.{◌≡◌, refl}
use mathlib.Core.List.{List, [], ◌∷◌, map}
use Rattle.bits.specs.Fields.{bit_at, field_at, field_of}
use Rattle.bits.specs.Puts.{with_digit, set_bit, put_bits, binary, can_put, put_of, spare, pad_of}

pub data Case : Type 0 where
  -- of these bytes the field at a position, of a width, is this number
  reads : List ℕ → ℕ → ℕ → ℕ → Case
  -- these bytes, with a number put at a position in a width, are those bytes
  puts : List ℕ → ℕ → ℕ → ℕ → List ℕ → Case
  -- these bytes, with the spare bits after a position zero, are those bytes
  pads : List ℕ → ℕ → List ℕ → Case

abbrev pub got : Case → List ℕ
got (reads l at w v) = field_of l at w ∷ []
got (puts l at w v m) = put_of l at w v
got (pads l at m) = pad_of l at

abbrev pub want : Case → List ℕ
want (reads l at w v) = v ∷ []
want (puts l at w v m) = m
want (pads l at m) = m

-- the bytes of the worked cases
abbrev pub case_1 : List ℕ
case_1 = 0x25 ∷ 0xA0 ∷ []

abbrev pub case_2 : List ℕ
case_2 = 0x25 ∷ 0x80 ∷ 0x02 ∷ 0x80 ∷ []

abbrev pub case_3 : List ℕ
case_3 = 0x25 ∷ 0xFF ∷ 0xFF ∷ 0x80 ∷ []

abbrev pub case_4 : List ℕ
case_4 = 0x25 ∷ 0x40 ∷ 0x00 ∷ []

abbrev pub case_5 : List ℕ
case_5 = 0x26 ∷ 0x00 ∷ 0x00 ∷ []

abbrev pub case_6 : List ℕ
case_6 = 0x25 ∷ 0x42 ∷ 0xD0 ∷ 0x00 ∷ 0x00 ∷ 0x10 ∷ []

abbrev pub case_7 : List ℕ
case_7 = 0x25 ∷ 0x08 ∷ 0x00 ∷ 0x1F ∷ 0x48 ∷ []

abbrev pub case_8 : List ℕ
case_8 = 0x24 ∷ 0x5E ∷ 0x80 ∷ 0x01 ∷ 0xF4 ∷ 0xA0 ∷ 0x00 ∷ 0x7D ∷ 0x80 ∷ []

abbrev pub cases : List Case
cases =
    -- 1: SS type 9, PDU type 13
    reads case_1 0 6 9
    ∷ reads case_1 6 5 13
    -- 2: ACCEPT, identifier 5
    ∷ reads case_2 6 5 12
    ∷ reads case_2 11 14 5
    -- 3: DIVERT, identifier 16,383
    ∷ reads case_3 6 5 15
    ∷ reads case_3 11 14 16383
    -- 4: INTERCEPTED, cause 0, O-bit 0
    ∷ reads case_4 6 5 10
    ∷ reads case_4 11 5 0
    ∷ reads case_4 16 1 0
    -- 5: DIVERTED
    ∷ reads case_5 0 6 9
    ∷ reads case_5 6 5 16
    -- 6: cause 2, O-bit and P-bit 1, kind 1, SSI 1
    ∷ reads case_6 11 5 2
    ∷ reads case_6 16 1 1
    ∷ reads case_6 17 1 1
    ∷ reads case_6 18 2 1
    ∷ reads case_6 20 24 1
    -- 7: INTERROGATE, kind 1, SSI 1,001
    ∷ reads case_7 6 5 8
    ∷ reads case_7 11 2 1
    ∷ reads case_7 13 24 1001
    -- 8: ACTIVATE, range 15, kind 1, SSI 1,001, kind 1, SSI 1,004, O-bit 0
    ∷ reads case_8 6 5 2
    ∷ reads case_8 11 4 15
    ∷ reads case_8 15 2 1
    ∷ reads case_8 17 24 1001
    ∷ reads case_8 41 2 1
    ∷ reads case_8 43 24 1004
    ∷ reads case_8 67 1 0
    -- case 2 written, element by element, and its spare bits
    ∷ puts (0x00 ∷ 0x00 ∷ 0x00 ∷ 0x00 ∷ []) 0 6 9 (0x24 ∷ 0x00 ∷ 0x00 ∷ 0x00 ∷ [])
    ∷ puts (0x24 ∷ 0x00 ∷ 0x00 ∷ 0x00 ∷ []) 6 5 12 (0x25 ∷ 0x80 ∷ 0x00 ∷ 0x00 ∷ [])
    ∷ puts (0x25 ∷ 0x80 ∷ 0x00 ∷ 0x00 ∷ []) 11 14 5 case_2
    ∷ puts (0xFF ∷ 0xFF ∷ 0xFF ∷ 0xFF ∷ []) 11 14 5 (0xFF ∷ 0xE0 ∷ 0x02 ∷ 0xFF ∷ [])
    ∷ pads (0x25 ∷ 0x80 ∷ 0x02 ∷ 0xFF ∷ 0xFF ∷ []) 25 (0x25 ∷ 0x80 ∷ 0x02 ∷ 0x80 ∷ 0xFF ∷ [])
    ∷ pads (0x25 ∷ 0xFF ∷ []) 8 (0x25 ∷ 0xFF ∷ [])
    -- case 7's address written
    ∷ puts (0x25 ∷ 0x00 ∷ 0x00 ∷ 0x00 ∷ 0x07 ∷ []) 13 24 1001 (0x25 ∷ 0x00 ∷ 0x00 ∷ 0x1F ∷ 0x4F ∷ [])
    ∷ puts (0x25 ∷ 0x00 ∷ 0x00 ∷ 0x1F ∷ 0x48 ∷ []) 11 2 1 case_7
    -- 64 bits over nine bytes; a number over its width gives its low bits; 65 bits are none
    ∷ puts (0 ∷ 0 ∷ 0 ∷ 0 ∷ 0 ∷ 0 ∷ 0 ∷ 0 ∷ 0 ∷ []) 4 64 0xFFFF_FFFF_FFFF_FFFF (0x0F ∷ 0xFF ∷ 0xFF ∷ 0xFF ∷ 0xFF ∷ 0xFF ∷ 0xFF ∷ 0xFF ∷ 0xF0 ∷ [])
    ∷ reads (0x0F ∷ 0xFF ∷ 0xFF ∷ 0xFF ∷ 0xFF ∷ 0xFF ∷ 0xFF ∷ 0xFF ∷ 0xF0 ∷ []) 4 64 0xFFFF_FFFF_FFFF_FFFF
    ∷ reads (0x0F ∷ 0xFF ∷ 0xFF ∷ 0xFF ∷ 0xFF ∷ 0xFF ∷ 0xFF ∷ 0xFF ∷ 0xF0 ∷ []) 4 65 0
    ∷ puts (0x00 ∷ []) 2 3 0xFE (0x30 ∷ [])
    -- past the end bits read as 0, and nothing is put
    ∷ reads case_1 8 24 0xA0_0000
    ∷ reads case_1 800 8 0
    ∷ puts case_1 9 8 0xFF case_1
    ∷ puts case_1 8 8 0xFF (0x25 ∷ 0xFF ∷ [])
    ∷ []

pub cases_right : map got cases ≡ map want cases
unfolding bit_at field_at field_of with_digit set_bit put_bits binary can_put put_of spare pad_of
cases_right = refl
