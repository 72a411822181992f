-- The desk of one network: its profile and its 32 places. An opened desk has them all free.
use Rattle.std.specs.Prelude.{Bool, cond, Result, Ok, Err}
use Rattle.codec.specs.Stops.{refusal}
use Rattle.codec.specs.Codec.{both}
use Rattle.codec.specs.declared.Stop.{Stop}
use Rattle.profile.specs.Rules.{profile_ok}
use Rattle.profile.specs.declared.Profile.{Profile}
use Rattle.places.specs.Held.{no_places}
use Rattle.places.specs.Grounds.{places_ok}
use Rattle.desk.specs.declared.Desk.{Desk}

abbrev pub desk_with : Profile → Desk
desk_with p = record { profile = p; places = record { place = no_places } }

-- 1 for a profile that breaks a rule
unfoldable pub open_of : Profile → Result Desk Stop
open_of p = cond (profile_ok p) (Ok (desk_with p)) (Err (refusal 1))

-- a lent desk on which 1 does not come
unfoldable pub desk_ok : Desk → Bool
desk_ok d = both (profile_ok d.profile) (places_ok d.profile.shares d.places.place)
