use Rattle.std.proofs.Common.{cond, rules, tests}
use lib.Dec.{eqb}
use Rattle.places.specs.Held.{owed_others, owed_of}
use Rattle.places.proofs.count.owed_others.Goals as goal

pub returns : goal.returns
unfolding owed_others
returns c = c.over_posts.ensures (λ q. cond (eqb q c.args.post) 0 (owed_of c.args.shares c.args.list q)) (λ q n l p. search (rules, tests))
