use Rattle.std.proofs.Common.{rules}
use Rattle.places.specs.Held.{owed_all, owed_of}
use Rattle.places.proofs.count.owed_all.Goals as goal

pub returns : goal.returns
unfolding owed_all
returns c = c.over_posts.ensures (λ q. owed_of c.args.shares c.args.list q) (λ q n l p. search rules)
