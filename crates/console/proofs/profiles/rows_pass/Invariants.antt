use Rattle.std.proofs.Common.{◌*◌, ◌≤◌}
use Rattle.layouts.proofs.PassLaws.{Passed}
use Rattle.console.proofs.profiles.rows_pass.Given as goal

abbrev pub invariant-loop-p : goal.invariant-loop-p
invariant-loop-p l = (l.all ≤ 255 * l.p) × Passed l.l l.p l.all l.rest
