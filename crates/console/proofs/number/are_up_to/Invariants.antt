use Rattle.std.proofs.Common.{◌≡◌, ◌+◌, true, leb, get_or}
use Rattle.profile.specs.Counting.{every}
use Rattle.console.proofs.number.are_up_to.Given as goal

abbrev pub invariant-loop-r : goal.invariant-loop-r
invariant-loop-r l = every l.r (λ r. leb (get_or l.l (l.at + r) 0) l.most) ≡ true
