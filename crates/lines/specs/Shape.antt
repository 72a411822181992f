-- The shape of a line: document 01, "Bits and calls worked out", last paragraph. A bit length of 1 to 4 digits, one space, and an even
-- number of upper-case hex digits, at most 1,024.
use Rattle.std.specs.Prelude.{ℕ, zero, suc, ◌+◌, ◌-◌, ◌*◌, Bool, true, false, cond, List, [], ◌∷◌, take, drop, replicate, ◌==◌, nat_le, nat_lt, slice_set}
use Rattle.codec.specs.Codec.{both}
use Rattle.lines.specs.declared.Hex.{Hex}

-- 0 to 9
unfoldable pub is_digit : ℕ → Bool
is_digit b = both (nat_le 48 b) (nat_le b 57)

-- A to F
unfoldable pub is_letter : ℕ → Bool
is_letter b = both (nat_le 65 b) (nat_le b 70)

-- the worth of a hex digit, or 16 for a byte that is none
unfoldable pub hex_of : ℕ → ℕ
hex_of b = cond (is_digit b) (b - 48) (cond (is_letter b) (b - 55) 16)

unfoldable pub is_hex : ℕ → Bool
is_hex b = nat_lt (hex_of b) 16

-- ---- bytes: pairs of hex digits to the end, at most 512; the row is zero beyond the count

unfoldable pub no_bytes : List ℕ
no_bytes = replicate 512 0

unfoldable pub no_hex : Hex
no_hex = record { good = false; count = 0; bytes = no_bytes }

-- with the first n bytes in the row, and room for more
unfoldable pub hex_then : ℕ → ℕ → List ℕ → List ℕ → Hex
hex_then room n row [] = record { good = true; count = n; bytes = row }
hex_then room n row (x ∷ []) = no_hex
hex_then zero n row (x ∷ y ∷ rest) = no_hex
hex_then (suc room) n row (x ∷ y ∷ rest) =
    cond (is_hex x) (cond (is_hex y) (hex_then room (n + 1) (slice_set row n (hex_of x * 16 + hex_of y)) rest) no_hex) no_hex

abbrev pub hex_in : List ℕ → Hex
hex_in rest = hex_then 512 0 no_bytes rest

-- the bytes from a position on; good with 0 of them where nothing is left there
unfoldable pub hex_at : List ℕ → ℕ → Hex
hex_at l at = hex_in (drop at l)

-- ---- a line: a bit length and the bytes, or another shape

pub data Line : Type 0 where
  good : ℕ → List ℕ → Line
  other : Line

-- after the space, with the bit length
unfoldable pub line_with : ℕ → Hex → Line
line_with bits h = cond h.good (good bits (take h.count h.bytes)) other

-- the byte b after so many digits that make this number, where it is no digit: the space, with a digit before it
abbrev pub after_digits : ℕ → ℕ → ℕ → List ℕ → Line
after_digits seen bits b rest = cond (b == 32) (cond (nat_le 1 seen) (line_with bits (hex_in rest)) other) other

-- so many digits have been seen and make this number: one more while there are fewer than 4
unfoldable pub digits_then : ℕ → ℕ → List ℕ → Line
digits_then seen bits [] = other
digits_then seen bits (b ∷ rest) =
    cond (is_digit b) (cond (nat_lt seen 4) (digits_then (suc seen) (bits * 10 + hex_of b) rest) other) (after_digits seen bits b rest)

unfoldable pub line_of : List ℕ → Line
line_of line = digits_then 0 0 line
