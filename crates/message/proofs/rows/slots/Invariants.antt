use Rattle.std.proofs.Common.{◌≡◌, take}
use Rattle.message.specs.Rows.{slots}
use Rattle.message.proofs.rows.slots.Given as goal

abbrev pub invariant-loop-i : goal.invariant-loop-i
invariant-loop-i g l = l.slots ≡ slots g.row.M (take l.i l.parts)
