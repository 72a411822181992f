use Prim.Native.Nat.{◌-◌, ◌≤◌}
use mathlib.Core.Path.{◌≡◌}
use lib.ListN.{length}
use Rattle.blocks.specs.Blocks.{line_end}
use Rattle.blocks.proofs.line_end.Given as goal

abbrev pub invariant-loop-i : goal.invariant-loop-i
invariant-loop-i l = record {
  same : line_end l.block l.from ≡ line_end l.block l.i;
  past : l.from ≤ l.i;
  inside : l.i ≤ length l.block;
}

abbrev pub decreases-loop-i : goal.decreases-loop-i
decreases-loop-i l = length l.block - l.i
