-- New shares on the sample desk, worked out: document 02, (vi). What is held stands before the rows that are asked for; of two posts,
-- reserved number and ceiling of each. Assumes nothing.
use Prim.Native.Nat.{ℕ}
use mathlib.Core.Path.{◌≡◌, refl}
use mathlib.Core.List as list
use mathlib.Core.List.{List, [], ◌∷◌}
use Rattle.codec.specs.Codec.{both}
use Rattle.codec.specs.Stops.{refusal, no_stop}
use Rattle.profile.specs.Counting.{every, sum}
use Rattle.profile.specs.Rules.{no_share, meaning_ok, meaning_in, air_ok, share_ok, share_in, shares_ok, profile_ok}
use Rattle.profile.specs.Sample.{sample_meanings, sample_share, sample}
use Rattle.profile.specs.declared.Share.{Share}
use Rattle.places.specs.Fits.{claim_of, claims_of, fits_of}
use Rattle.places.specs.Grounds.{second_ok, call_ok, apart, alone_at, under_ceiling, places_ok}
use Rattle.places.specs.Held.{place_in, waits_at, held_of, used_of, owed_of, owed_all, load_of}
use Rattle.places.proofs.Cases.{two}
use Rattle.desk.specs.Changes.{new_shares, change_of}
use Rattle.desk.specs.Desks.{desk_ok}

abbrev row : ℕ → ℕ → Share
row reserved ceiling = record { reserved = reserved; ceiling = ceiling }

-- so many calls wait at post 0 and at post 1; these rows are asked for; this number is answered, 0 where they are taken
pub data Case : Type 0 where
  holding : ℕ → ℕ → List Share → ℕ → Case

abbrev pub answered : Case → ℕ
answered (holding a b rows want) = (change_of (record { profile = sample; places = record { place = two a b } }) rows).change.stop.number

abbrev pub wanted : Case → ℕ
wanted (holding a b rows want) = want

abbrev pub changes : List Case
changes =
    -- as they are; all 32 reserved, and one more
    holding 1 2 (row 2 30 ∷ row 4 8 ∷ []) 0
    ∷ holding 0 0 (row 24 30 ∷ row 8 8 ∷ []) 0
    ∷ holding 0 0 (row 25 30 ∷ row 8 8 ∷ []) 23
    -- a ceiling of 0 and of 33, a reserved number over the ceiling, a row left out
    ∷ holding 0 0 (row 0 0 ∷ row 4 8 ∷ []) 23
    ∷ holding 0 0 (row 2 33 ∷ row 4 8 ∷ []) 23
    ∷ holding 0 0 (row 2 30 ∷ row 5 4 ∷ []) 23
    ∷ holding 0 0 (row 2 30 ∷ []) 23
    -- 23 comes before 24: post 1 holds 2, over a ceiling of 1
    ∷ holding 1 2 (row 2 33 ∷ row 1 1 ∷ []) 23
    ∷ holding 1 2 (row 2 30 ∷ row 1 1 ∷ []) 24
    ∷ holding 1 2 (row 2 30 ∷ row 2 2 ∷ []) 0
    -- 31 and 1 are reserved, 32 together, but post 1 holds 2: 31 + 2 = 33; with 30 it is 32
    ∷ holding 1 2 (row 31 32 ∷ row 1 8 ∷ []) 24
    ∷ holding 1 2 (row 30 32 ∷ row 1 8 ∷ []) 0
    -- post 0 holds 28: 28 + 4 = 32, 28 + 5 = 33; its ceiling may be 28 and not 27
    ∷ holding 28 0 (row 2 28 ∷ row 4 8 ∷ []) 0
    ∷ holding 28 0 (row 2 30 ∷ row 5 8 ∷ []) 24
    ∷ holding 28 0 (row 2 27 ∷ row 4 8 ∷ []) 24
    -- what post 1 held beyond its reserved number counts, what it holds within does not
    ∷ holding 26 6 (row 2 30 ∷ row 6 8 ∷ []) 0
    ∷ holding 26 6 (row 2 30 ∷ row 7 8 ∷ []) 24
    -- rows past the posts are not looked at
    ∷ holding 1 2 (row 2 30 ∷ row 4 8 ∷ row 255 0 ∷ row 32 32 ∷ []) 0
    -- a desk that breaks a rule, as post 1 over its ceiling of 8, is not mended
    ∷ holding 0 9 (row 2 30 ∷ row 4 9 ∷ []) 1
    ∷ []

pub changes_right : list.map answered changes ≡ list.map wanted changes
unfolding both every sum meaning_ok meaning_in air_ok share_ok share_in shares_ok profile_ok sample_meanings sample_share sample claim_of claims_of fits_of second_ok call_ok apart alone_at under_ceiling places_ok place_in waits_at held_of used_of owed_of owed_all load_of new_shares change_of desk_ok refusal no_stop
changes_right = refl

-- the rows of the two posts are stored as they were given, those past them as 0
pub stored_right : (change_of (record { profile = sample; places = record { place = two 1 2 } }) (row 3 29 ∷ row 5 9 ∷ row 255 0 ∷ row 32 32 ∷ [])).desk.profile.shares.share
    ≡ row 3 29 ∷ row 5 9 ∷ no_share ∷ no_share ∷ no_share ∷ no_share ∷ no_share ∷ no_share ∷ []
unfolding both every sum meaning_ok meaning_in air_ok share_ok share_in shares_ok profile_ok sample_meanings sample_share sample claim_of claims_of fits_of second_ok call_ok apart alone_at under_ceiling places_ok place_in waits_at held_of used_of owed_of owed_all load_of new_shares change_of desk_ok
stored_right = refl
