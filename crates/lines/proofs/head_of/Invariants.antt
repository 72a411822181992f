use Prim.Native.Nat.{◌^◌, ◌<◌, ◌≤◌}
use mathlib.Core.Path.{◌≡◌}
use lib.ListN.{drop}
use Rattle.lines.specs.Shape.{digits_then, line_of}
use Rattle.lines.proofs.head_of.Given as goal

abbrev pub invariant-loop-i : goal.invariant-loop-i
invariant-loop-i l = record {
  few : l.i ≤ 4;
  small : l.bits < 10 ^ l.i;
  same : line_of l.line ≡ digits_then l.i l.bits (drop l.i l.line);
}
