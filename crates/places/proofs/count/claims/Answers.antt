use Rattle.std.proofs.Common.{rules}
use Rattle.places.specs.Fits.{claims_of, claim_of}
use Rattle.places.proofs.count.claims.Goals as goal

pub returns : goal.returns
unfolding claims_of
returns c = c.over_posts.ensures (λ q. claim_of c.args.shares c.args.list q) (λ q n l p. search rules)
