use Prim.Native.Nat.{◌-◌}
use mathlib.Core.Path.{◌≡◌}
use lib.ListN.{length}
use Rattle.script.specs.Shape.{numbers_from, numbers_at}
use Rattle.script.proofs.shape.numbers_at.Given as goal

abbrev pub invariant-loop-n : goal.invariant-loop-n
invariant-loop-n l = (length l.number ≡ 40) × (numbers_at l.most l.line l.from ≡ numbers_from (l.most - l.n) l.n l.number l.line l.at)
