-- What the code's parts say of a line: the worth of a letter, how it begins, that it has the bytes that its bit length asks for, and the bytes decoded.
use Rattle.std.specs.Prelude.{◌≡◌, ℕ, zero, suc, ◌+◌, ◌-◌, ◌*◌, ◌/◌, ◌%◌, ◌≤◌, Option, Some, None, Bool, true, cond, ◌&&◌, List, length, nat_lt, slice_index, slice_set}
use Rattle.lines.specs.Shape.{hex_of, is_hex, hex_at, Line, other, line_with}
use Rattle.lines.specs.declared.Head.{Head}

-- ---- one byte

-- the worth of the hex digit that stands so far past A
unfoldable pub letter_worth : ℕ → ℕ
letter_worth n = cond (nat_lt n 6) (n + 10) 16

-- ---- the bit length and the space

-- what a line is that begins so
abbrev pub headed : Option Head → List ℕ → Line
headed None l = other
headed (Some r) l = line_with r.bits (hex_at l r.next)

-- where it goes on
abbrev pub after_head : Option Head → ℕ
after_head None = 0
after_head (Some r) = r.next

pub record Heads (r : Option Head) (l : List ℕ) (line : Line) : Type 0 where
  pub is : headed r l ≡ line
  pub inside : after_head r ≤ length l

-- ---- the bytes

-- so many bytes from a position on are hex digits
unfoldable pub hex_up_to : List ℕ → ℕ → ℕ → Bool
hex_up_to l from zero = true
hex_up_to l from (suc n) = hex_up_to l from n && is_hex (slice_index l (from + n))

-- the byte that two hex digits make
unfoldable pub pair_of : ℕ → ℕ → ℕ
pair_of x y = hex_of x % 16 * 16 + hex_of y % 16

-- a row with the bytes at its front that so many pairs from a position on make
unfoldable pub pairs_in : List ℕ → List ℕ → ℕ → ℕ → List ℕ
pairs_in row l from zero = row
pairs_in row l from (suc k) = slice_set (pairs_in row l from k) k (pair_of (slice_index l (from + 2 * k)) (slice_index l (from + 2 * k + 1)))

-- hex digits stand from a position to the end, and make the bytes for a bit length that can be read
pub record Enough (l : List ℕ) (from bits : ℕ) : Type 0 where
  pub inside : from ≤ length l
  pub hex : (hex_at l from).good ≡ true
  pub some : 1 ≤ bits
  pub most : bits ≤ 4096
  pub held : (bits + 7) / 8 ≤ (length l - from) / 2
