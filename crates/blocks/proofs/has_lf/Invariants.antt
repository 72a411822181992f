use Prim.Native.Nat.{◌+◌}
use mathlib.Core.Bool.{false}
use mathlib.Core.Path.{◌≡◌}
use Rattle.blocks.specs.Blocks.{line_end}
use Rattle.blocks.proofs.has_lf.Given as goal

abbrev pub invariant-loop-j : goal.invariant-loop-j
invariant-loop-j l = l.seen ≡ false → line_end l.block l.from ≡ line_end l.block (l.from + l.j)
