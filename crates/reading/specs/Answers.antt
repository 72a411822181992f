-- What reading answers, and an element in a number of its own width.
use Rattle.std.specs.Prelude.{ℕ, cond, List, leb, Result, Ok, Err}
use Rattle.bits.specs.Fields.{bit_at}
use Rattle.codec.specs.Stops.{short}
use Rattle.codec.specs.Codec.{Read, got, no, number}
use Rattle.codec.specs.declared.Stop.{Stop}
use Rattle.message.specs.declared.Value.{Value}

-- the public answer
unfoldable pub reading_of : Read Value → Result Value Stop
reading_of (got v p) = Ok v
reading_of (no s) = Err s

-- an element in a number of k bits: a wider one never fits
abbrev pub up_to : ℕ → ℕ → List ℕ → ℕ → ℕ → ℕ → Read ℕ
up_to k e l n at w = cond (leb w k) ((number e w).read (bit_at l) n at) (no (short e at))
