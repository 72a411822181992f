use Rattle.std.proofs.Common.{◌≡◌, ◌≤◌}
use Rattle.profile.specs.Counting.{sum, one}
use Rattle.places.specs.Held.{place_in, waits_at}
use Rattle.places.proofs.count.held.Given as goal

abbrev pub invariant-loop-i : goal.invariant-loop-i
invariant-loop-i l = (l.count ≤ l.i) × (l.count ≡ sum l.i (λ j. one (waits_at (place_in l.list j) l.post)))
