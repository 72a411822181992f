use Rattle.std.proofs.Common.{◌≡◌, true}
use Rattle.places.specs.Grounds.{under_ceiling}
use Rattle.profile.specs.Counting.{every}
use Rattle.places.proofs.ground.under_ceilings.Given as goal

abbrev pub invariant-loop-p : goal.invariant-loop-p
invariant-loop-p l = every l.p (λ q. under_ceiling l.shares l.list q) ≡ true
