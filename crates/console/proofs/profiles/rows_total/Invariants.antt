use Rattle.std.proofs.Common.{◌≡◌, ◌+◌, ◌*◌, ◌≤◌, get_or}
use Rattle.profile.specs.Counting.{sum}
use Rattle.console.proofs.profiles.rows_total.Given as goal

abbrev pub invariant-loop-k : goal.invariant-loop-k
invariant-loop-k l = (l.total ≤ 255 * l.k) × (l.total ≡ sum l.k (λ k. get_or l.l (23 + k) 0))
