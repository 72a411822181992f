use Rattle.std.proofs.Common.{◌≡◌, true}
use Rattle.places.specs.Grounds.{apart, alone_at}
use Rattle.places.specs.Held.{place_in}
use Rattle.profile.specs.Counting.{every}
use Rattle.places.proofs.ground.all_alone.Given as goal

abbrev pub invariant-loop-j : goal.invariant-loop-j
invariant-loop-j l = every l.j (λ k. apart (place_in l.list l.i) (place_in l.list k)) ≡ true

abbrev pub invariant-loop-i : goal.invariant-loop-i
invariant-loop-i l = every l.i (λ j. alone_at l.list j) ≡ true
