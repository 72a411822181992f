-- Shares that fit the calls that wait: document 02, (vi). What the places must be enough for is counted post by post.
use Rattle.std.specs.Prelude.{ℕ, max, Bool, List, leb}
use Rattle.codec.specs.Codec.{both}
use Rattle.profile.specs.Counting.{every, sum}
use Rattle.profile.specs.Rules.{share_in}
use Rattle.profile.specs.declared.Shares.{Shares}
use Rattle.places.specs.Held.{held_of}
use Rattle.places.specs.Grounds.{under_ceiling}
use Rattle.places.specs.declared.Place.{Place}

-- what a post has a claim to: the larger of its reserved number and its held; and the sum over all posts
unfoldable pub claim_of : Shares → List Place → ℕ → ℕ
claim_of shares places post = max (share_in shares.share post).reserved (held_of places post)

unfoldable pub claims_of : Shares → List Place → ℕ
claims_of shares places = sum shares.posts (λ q. claim_of shares places q)

-- no post holds more than its ceiling, and 32 places are enough for all claims
unfoldable pub fits_of : Shares → List Place → Bool
fits_of shares places = both (every shares.posts (λ p. under_ceiling shares places p)) (leb (claims_of shares places) 32)
