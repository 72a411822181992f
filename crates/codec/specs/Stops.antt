-- The refusals on their way to the caller: a number, and with a 4 the element that did not fit and the position where it begins. Whatever a
-- refusal will carry goes in here, and at the three functions that equal these.
use Rattle.std.specs.Prelude.{ℕ, Bool, ◌&&◌, ◌||◌, leb}
use Rattle.codec.specs.declared.Stop.{Stop}

-- 4: the element that begins at position at reaches past the bit length
unfoldable pub short : ℕ → ℕ → Stop
short element at = record { number = 4; element = element; at = at }

-- what was read is refused with the number c, which has neither element nor position
unfoldable pub refusal : ℕ → Stop
refusal c = record { number = c; element = 0; at = 0 }

-- what stands beside an answer that is no refusal
unfoldable pub no_stop : Stop
no_stop = record { number = 0; element = 0; at = 0 }

-- document 01's table has the numbers from 1 to 22; document 02 adds 23 and 24 in (vi), 26 and 27 in (viii)
unfoldable pub published : ℕ → Bool
published n = (leb 1 n && leb n 24) || (leb 26 n && leb n 27)
