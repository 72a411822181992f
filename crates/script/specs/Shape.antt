-- The shape of a line of a script, part by part: a keyword, numbers with single spaces between them; for the pairs of hex digits see the
-- Shape of `lines`. A position is an index into the line, from 0; `next` is where the reading goes on.
use Rattle.std.specs.Prelude.{ℕ, zero, suc, ◌+◌, ◌*◌, Bool, true, false, cond, List, [], ◌∷◌, eqb, leb, ltb, length, get_or, drop, set, replicate}
use Rattle.std.specs.Prelude.{Option, Some, None}
use Rattle.codec.specs.Codec.{both}
use Rattle.lines.specs.Shape.{is_digit, hex_of}
use Rattle.script.specs.declared.shape.Number.{Number}
use Rattle.script.specs.declared.shape.Numbers.{Numbers}

-- ---- a keyword: the line starts with these bytes

unfoldable pub starts_with : List ℕ → List ℕ → Bool
starts_with l [] = true
starts_with [] (w ∷ word) = false
starts_with (b ∷ l) (w ∷ word) = both (eqb b w) (starts_with l word)

-- ---- a number: 1 to 10 digits, at most 4,294,967,295

-- so many digits were seen, they make this value, and this is the position after them
unfoldable pub number_if : ℕ → ℕ → ℕ → Option Number
number_if seen value next = cond (leb 1 seen) (cond (leb value 4294967295) (Some (record { value = value; next = next })) None) None

-- the same, with what is left of the line from there on: one more digit while there are fewer than 10
unfoldable pub digits_then : ℕ → ℕ → ℕ → List ℕ → Option Number
digits_then at seen value [] = number_if seen value at
digits_then at seen value (b ∷ rest) =
    cond (is_digit b) (cond (ltb seen 10) (digits_then (suc at) (suc seen) (value * 10 + hex_of b) rest) None) (number_if seen value at)

-- the number that stands at a position
unfoldable pub number_at : List ℕ → ℕ → Option Number
number_at l at = digits_then at 0 0 (drop at l)

-- ---- numbers in a row of 40, zero beyond the count; no line has more than 39

unfoldable pub no_row : List ℕ
no_row = replicate 40 0

unfoldable pub no_numbers : Numbers
no_numbers = record { count = 0; next = 0; number = no_row }

-- the number d is the one after the first n of the row: the line ends behind it, or one space stands there and the reading goes on
abbrev pub after_number : Option Number → ℕ → List ℕ → List ℕ → (Number → Numbers) → Numbers
after_number None n row l more = no_numbers
after_number (Some d) n row l more =
    cond (leb (length l) d.next) (record { count = n + 1; next = 0; number = set row n d.value })
    (cond (eqb (get_or l d.next 0) 32) (more d) no_numbers)

-- after the first n of the row, up to k more from a position on. Where they are as many as asked for and a space follows, `next` is the
-- position behind it; where the line ends after the last, it is 0. Where it goes on in another way there are no numbers.
unfoldable pub numbers_from : ℕ → ℕ → List ℕ → List ℕ → ℕ → Numbers
numbers_from zero n row l at = record { count = n; next = at; number = row }
numbers_from (suc k) n row l at =
    after_number (number_at l at) n row l (λ d. numbers_from k (n + 1) (set row n d.value) l (d.next + 1))

-- at most this many numbers from a position on
unfoldable pub numbers_at : ℕ → List ℕ → ℕ → Numbers
numbers_at most l at = numbers_from most 0 no_row l at
