use Rattle.std.proofs.Common.{◌≡◌, true}
use Rattle.console.specs.Drawing.{Alike}
use Rattle.console.proofs.bytes.same_run.Given as goal

abbrev pub invariant-loop-i : goal.invariant-loop-i
invariant-loop-i l = l.same ≡ true → Alike l.a l.b l.from l.i
