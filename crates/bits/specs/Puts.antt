-- Bits written into a byte list. All other bits stay, and so does the length.
use Rattle.std.specs.Prelude.{ℕ, zero, suc, ◌+◌, ◌-◌, ◌*◌, ◌/◌, ◌%◌, ◌^◌, Bool, cond, false, List, [], ◌∷◌, ◌++◌, leb, length, get_or, set}

-- the number x with b as its binary digit of worth 2 ^ k
unfoldable pub with_digit : ℕ → ℕ → ℕ → ℕ
with_digit x k b = (x / 2 ^ k / 2 * 2 + b) * 2 ^ k + x % 2 ^ k

-- the bytes l with b as bit i
unfoldable pub set_bit : List ℕ → ℕ → ℕ → List ℕ
set_bit l i b = set l (i / 8) (with_digit (get_or l (i / 8) 0) (7 - i % 8) b)

-- the bytes l with the bits bs from position at on
unfoldable pub put_bits : List ℕ → ℕ → List ℕ → List ℕ
put_bits l at [] = l
put_bits l at (b ∷ bs) = put_bits (set_bit l at b) (suc at) bs

-- the low w bits of v, most significant first
unfoldable pub binary : ℕ → ℕ → List ℕ
binary zero v = []
binary (suc w) v = binary w (v / 2) ++ (v % 2 ∷ [])

-- w bits from position at on are a number's, and lie in the bytes
unfoldable pub can_put : List ℕ → ℕ → ℕ → Bool
can_put l at w = cond (leb w 64) (leb (at + w) (8 * length l)) false

-- what the code writes: the low w bits of v, or nothing where they can't be put
unfoldable pub put_of : List ℕ → ℕ → ℕ → ℕ → List ℕ
put_of l at w v = cond (can_put l at w) (put_bits l at (binary w v)) l

-- how many bits are left from position at to the end of its byte
unfoldable pub spare : ℕ → ℕ
spare at = (8 - at % 8) % 8

-- the bytes l with the spare bits after position at zero
unfoldable pub pad_of : List ℕ → ℕ → List ℕ
pad_of l at = put_of l at (spare at) 0
