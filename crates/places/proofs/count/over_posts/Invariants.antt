use Rattle.std.proofs.Common.{◌≡◌, ℕ, ◌*◌, ◌≤◌, ◌<◌}
use Rattle.profile.specs.Counting.{sum}
use Rattle.places.proofs.count.over_posts.Given as goal

abbrev pub invariant-loop-q : goal.invariant-loop-q
invariant-loop-q g l =
    (l.total ≤ 255 * l.q)
    × ((amount : ℕ → ℕ) → ((q n : ℕ) → q < l.posts → goal.F-post g l.part q n → n ≡ amount q) → l.total ≡ sum l.q amount)
