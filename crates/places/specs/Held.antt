-- The 32 places for waiting calls, and the places rule: document 01, "User records and waiting calls", its paragraph "Places".
use Rattle.std.specs.Prelude.{ℕ, ◌+◌, ◌-◌, Bool, false, cond, ◌||◌, List, eqb, ltb, get_or, replicate}
use Rattle.codec.specs.Codec.{both}
use Rattle.profile.specs.Counting.{sum, one}
use Rattle.profile.specs.Rules.{share_in}
use Rattle.profile.specs.declared.Shares.{Shares}
use Rattle.places.specs.declared.Place.{Place}

-- a free place, all zero
abbrev pub no_place : Place
no_place = record { used = false; identifier = 0; post = 0; more = false; second = 0; cause = 0 }

-- the place numbered i
unfoldable pub place_in : List Place → ℕ → Place
place_in places i = get_or places i no_place

-- an opened desk's places: all 32 free
unfoldable pub no_places : List Place
no_places = replicate 32 no_place

-- ---- held: a post's number of waiting calls

-- a call waits here at this post
unfoldable pub waits_at : Place → ℕ → Bool
waits_at p post = both p.used (eqb p.post post)

unfoldable pub held_of : List Place → ℕ → ℕ
held_of places post = sum 32 (λ i. one (waits_at (place_in places i) post))

-- all held: the waiting calls of all posts
unfoldable pub used_of : List Place → ℕ
used_of places = sum 32 (λ i. one (place_in places i).used)

-- free: 32 less all held
unfoldable pub free_of : List Place → ℕ
free_of places = 32 - used_of places

-- ---- owed to a post: its reserved number less its held, or 0 if that is negative

unfoldable pub owed_of : Shares → List Place → ℕ → ℕ
owed_of shares places post = (share_in shares.share post).reserved - held_of places post

-- the sum owed to all posts, and to all other posts
unfoldable pub owed_all : Shares → List Place → ℕ
owed_all shares places = sum shares.posts (λ q. owed_of shares places q)

unfoldable pub owed_others : Shares → List Place → ℕ → ℕ
owed_others shares places post = sum shares.posts (λ q. cond (eqb q post) 0 (owed_of shares places q))

-- all held plus all owed
unfoldable pub load_of : Shares → List Place → ℕ
load_of shares places = used_of places + owed_all shares places

-- ---- the places rule: held below the ceiling, and held below the reserved number or more free than is owed to the others

unfoldable pub admits_of : Shares → List Place → ℕ → Bool
admits_of shares places post =
    both (ltb (held_of places post) (share_in shares.share post).ceiling)
    (ltb (held_of places post) (share_in shares.share post).reserved || ltb (owed_others shares places post) (free_of places))
