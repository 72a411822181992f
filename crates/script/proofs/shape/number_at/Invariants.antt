use Prim.Native.Nat.{◌-◌, ◌^◌, ◌≤◌, ◌<◌}
use mathlib.Core.Path.{◌≡◌}
use lib.ListN.{length, drop}
use Rattle.script.specs.Shape.{digits_then, number_at}
use Rattle.script.proofs.shape.number_at.Given as goal

abbrev pub invariant-loop-i : goal.invariant-loop-i
invariant-loop-i l = (l.seen ≤ 10) × ((l.value < 10 ^ l.seen) × (number_at l.line l.from ≡ digits_then l.i l.seen l.value (drop l.i l.line)))

abbrev pub decreases-loop-i : goal.decreases-loop-i
decreases-loop-i l = length l.line - l.i
