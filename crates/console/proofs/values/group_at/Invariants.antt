use Rattle.std.proofs.Common.{◌≡◌, ◌+◌, length, drop}
use Rattle.layouts.proofs.ByteLaws.{rows_left}
use Rattle.layouts.specs.Bytes.{rows_from}
use Rattle.layouts.specs.Values.{address_from}
use Rattle.console.proofs.values.group_at.Given as goal

abbrev pub invariant-loop-i : goal.invariant-loop-i
invariant-loop-i l = (length l.list ≡ 15) × (rows_from address_from 7 15 (drop (l.at + 1) l.l) ≡ rows_left address_from 7 15 (l.at + 1) l.l l.list l.i)
