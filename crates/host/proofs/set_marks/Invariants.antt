-- The marks before i are written.
use Rattle.std.proofs.Common.{◌≡◌, take}
use Rattle.host.specs.Lending.{marked_as}
use Rattle.host.proofs.set_marks.Given as goal

abbrev pub invariant-loop-i : goal.invariant-loop-i
invariant-loop-i l = l.records ≡ marked_as l.marks.mark l.initial.records (take l.i l.marks.at)
