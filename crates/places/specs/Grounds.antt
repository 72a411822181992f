-- The places of a desk that refusal 1 passes: document 01, "Refusal numbers", row 1, from "a waiting call" on. Only waiting calls are
-- grounds; what a free place holds, and the rows of posts that are not there, are never looked at.
use Rattle.std.specs.Prelude.{ℕ, ◌^◌, Bool, true, not, cond, List, eqb, leb, ltb}
use Rattle.codec.specs.Codec.{both}
use Rattle.profile.specs.Counting.{every}
use Rattle.profile.specs.Rules.{share_in}
use Rattle.profile.specs.declared.Shares.{Shares}
use Rattle.places.specs.Held.{place_in, held_of, load_of}
use Rattle.places.specs.declared.Place.{Place}

-- a second post is below the number of posts (document 02, iii)
unfoldable pub second_ok : ℕ → Place → Bool
second_ok posts p = cond p.more (ltb p.second posts) true

-- a waiting call has an identifier of 14 bits, a post below the number of posts, and so its second post, if it has one, and an interception
-- cause of 5 bits (document 02, iv)
abbrev pub waiting_ok : ℕ → Place → Bool
waiting_ok posts p = both (ltb p.identifier (2 ^ 14)) (both (ltb p.post posts) (both (second_ok posts p) (ltb p.cause (2 ^ 5))))

unfoldable pub call_ok : ℕ → Place → Bool
call_ok posts p = cond p.used (waiting_ok posts p) true

-- two places hold no two waiting calls with one identifier
unfoldable pub apart : Place → Place → Bool
apart p q = not (both p.used (both q.used (eqb p.identifier q.identifier)))

-- no lower place has the identifier of the one numbered i
unfoldable pub alone_at : List Place → ℕ → Bool
alone_at places i = every i (λ j. apart (place_in places i) (place_in places j))

-- a post is not over its ceiling
unfoldable pub under_ceiling : Shares → List Place → ℕ → Bool
under_ceiling shares places post = leb (held_of places post) (share_in shares.share post).ceiling

unfoldable pub places_ok : Shares → List Place → Bool
places_ok shares places =
    both (every 32 (λ i. call_ok shares.posts (place_in places i)))
    (both (every 32 (λ i. alone_at places i))
    (both (every shares.posts (λ p. under_ceiling shares places p)) (leb (load_of shares places) 32)))
