use mathlib.Core.Path.{◌≡◌}
use Rattle.lines.specs.Parsing.{hex_up_to}
use Rattle.lines.proofs.each_hex.Given as goal

abbrev pub invariant-loop-i : goal.invariant-loop-i
invariant-loop-i l = l.good ≡ hex_up_to l.line l.from l.i
