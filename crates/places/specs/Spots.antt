-- Where a call waits, which place is taken next, and what taking, clearing and moving do: document 01, "User records and waiting calls".
use Rattle.std.specs.Prelude.{ℕ, zero, suc, Bool, true, false, not, cond, List, eqb, ltb, set}
use Rattle.codec.specs.Codec.{both}
use Rattle.places.specs.Held.{no_place, place_in}
use Rattle.places.specs.declared.Call.{Call}
use Rattle.places.specs.declared.Place.{Place}
use Rattle.places.specs.declared.Spot.{Spot}

abbrev pub no_spot : Spot
no_spot = record { found = false; place = 0 }

abbrev pub spot_at : ℕ → Spot
spot_at i = record { found = true; place = i }

-- the lowest of the n numbers from i on that passes a test, and the lowest of the first n
unfoldable pub lowest_from : ℕ → ℕ → (ℕ → Bool) → Spot
lowest_from zero i test = no_spot
lowest_from (suc n) i test = cond (test i) (spot_at i) (lowest_from n (suc i) test)

abbrev pub lowest : ℕ → (ℕ → Bool) → Spot
lowest n test = lowest_from n 0 test

-- a call with this identifier waits here
unfoldable pub has_call : Place → ℕ → Bool
has_call p identifier = both p.used (eqb p.identifier identifier)

-- the place where the call with this identifier waits
unfoldable pub place_of : List Place → ℕ → Spot
place_of places identifier = lowest 32 (λ i. has_call (place_in places i) identifier)

-- the lowest free place
unfoldable pub lowest_free : List Place → Spot
lowest_free places = lowest 32 (λ i. not (place_in places i).used)

-- the number of the place, or 32, and back
abbrev pub number_in : Spot → ℕ
number_in s = cond s.found s.place 32

unfoldable pub spot_of : ℕ → Spot
spot_of n = cond (ltb n 32) (spot_at n) no_spot

-- the place where this call waits
abbrev pub place_for : Call → Place
place_for x = record { used = true; identifier = x.identifier; post = x.post; more = x.more; second = x.second; cause = x.cause }

-- a place taken is overwritten whole, one that is freed becomes all zero; there is no place from number 32 on
unfoldable pub take_of : List Place → ℕ → Call → List Place
take_of places at x = set places at (place_for x)

unfoldable pub clear_of : List Place → ℕ → List Place
clear_of places at = set places at no_place

-- a call moves (document 02, iii): the place is kept, and there the call waits at its second post with its cause, and has no second any
-- more
abbrev pub moved_on : Place → Call
moved_on p = record { identifier = p.identifier; post = p.second; more = false; second = 0; cause = p.cause }

unfoldable pub move_of : List Place → ℕ → List Place
move_of places at = take_of places at (moved_on (place_in places at))
