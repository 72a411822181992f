use native.Mathlib.Omega.{arith}
use Rattle.lines.specs.Saying.{refused_of}
use Rattle.lines.proofs.TextLaws.{decimal_position}
use Rattle.lines.proofs.refused.Goals as goal

pub returns : goal.returns
unfolding refused_of
returns c = rw (c.numbered.ensures, c.from.ensures, decimal_position c.args.number (omega arith))
