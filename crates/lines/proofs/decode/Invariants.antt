use mathlib.Core.Path.{◌≡◌}
use Rattle.lines.specs.Parsing.{pairs_in}
use Rattle.lines.proofs.decode.Given as goal

abbrev pub invariant-loop-k : goal.invariant-loop-k
invariant-loop-k l = l.room ≡ pairs_in l.initial.room l.line l.from l.k
