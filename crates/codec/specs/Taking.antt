-- What the code answers, as an outcome; what `take` answers.
use Rattle.std.specs.Prelude.{ℕ, cond, List, leb, Result, Ok, Err}
use Rattle.bits.specs.Fields.{bit_at}
use Rattle.codec.specs.Stops.{short}
use Rattle.codec.specs.Codec.{Read, got, no, number}
use Rattle.codec.specs.declared.Stop.{Stop}

-- what the code answers with `Result`, as an outcome: what was read with the next position, or the refusal
abbrev pub outcome_of : {A : Type 0} → Result (A × ℕ) Stop → Read A
outcome_of (Ok x) = got x.0 x.1
outcome_of (Err s) = no s

-- the element e of w bits in the bytes l; no number has more than 64 bits, so a wider element never fits
unfoldable pub take_of : ℕ → List ℕ → ℕ → ℕ → ℕ → Read ℕ
take_of e l n at w = cond (leb w 64) ((number e w).read (bit_at l) n at) (no (short e at))
