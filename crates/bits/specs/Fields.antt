-- Bits of a byte list and the numbers in them, as document 01, "Bits on the air", counts: the first bit is the top bit of byte 0,
-- and a number goes most significant bit first.
use Rattle.std.specs.Prelude.{ℕ, zero, suc, ◌+◌, ◌-◌, ◌*◌, ◌/◌, ◌%◌, ◌^◌, cond, List, leb, length, get_or}

-- bit i of the bytes l; a bit past the end is 0
unfoldable pub bit_at : List ℕ → ℕ → ℕ
bit_at l i = get_or l (i / 8) 0 / 2 ^ (7 - i % 8) % 2

-- the number in the w bits from position at on, over any bits f
unfoldable pub field_at : (ℕ → ℕ) → ℕ → ℕ → ℕ
field_at f at zero = 0
field_at f at (suc w) = field_at f at w * 2 + f (at + w)

-- what the code reads: a number has at most 64 bits, and a wider field reads as 0
unfoldable pub field_of : List ℕ → ℕ → ℕ → ℕ
field_of l at w = cond (leb w 64) (field_at (bit_at l) at w) 0

-- the 64 bits of the eight bytes from byte i on; 0 where they are not all there
unfoldable pub eight_of : List ℕ → ℕ → ℕ
eight_of l i = cond (leb (i + 8) (length l)) (field_at (bit_at l) (8 * i) 64) 0
