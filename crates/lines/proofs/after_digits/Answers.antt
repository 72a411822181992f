use native.Mathlib.Omega.{arith}
use borrow.Author.Tests.{eq-eqb, le-leb}
use Rattle.lines.specs.Shape.{hex_at}
use Rattle.lines.proofs.after_digits.Goals as goal

pub returns : goal.returns
unfolding hex_at
returns c = record { is = rw (eq-eqb _ _ c.if-b-ne32.false, le-leb 1 c.args.seen (omega arith)); inside = omega arith }
