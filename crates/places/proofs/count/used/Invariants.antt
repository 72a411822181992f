use Rattle.std.proofs.Common.{◌≡◌, ◌≤◌}
use Rattle.profile.specs.Counting.{sum, one}
use Rattle.places.specs.Held.{place_in}
use Rattle.places.proofs.count.used.Given as goal

abbrev pub invariant-loop-at : goal.invariant-loop-at
invariant-loop-at l = (l.count ≤ l.at) × (l.count ≡ sum l.at (λ j. one (place_in l.list j).used))
