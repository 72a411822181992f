use Rattle.std.proofs.Common.{◌≡◌, ◌+◌, leb, get_or}
use Rattle.profile.specs.Counting.{every}
use Rattle.console.proofs.profiles.meanings_known.Given as goal

abbrev pub invariant-loop-r : goal.invariant-loop-r
invariant-loop-r l = l.known ≡ every l.r (λ r. leb (get_or l.l (6 + r) 0) 17)
