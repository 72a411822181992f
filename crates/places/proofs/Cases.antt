-- Desks for which the places rule and refusal 1 say yes or no, worked cases 11 and 12 of document 01 among them, and places that are
-- found, taken and cleared: checked lists. Assumes nothing.
use Prim.Native.Nat.{ℕ, zero, suc, ◌-◌}
use mathlib.Core.Path.{◌≡◌, refl}
use mathlib.Core.Bool.{Bool, true, false}
use mathlib.Core.List as list
use mathlib.Core.List.{List, [], ◌∷◌, ◌++◌}
use lib.ListN.{length, set, replicate}
use Rattle.codec.specs.Codec.{both}
use Rattle.profile.specs.Counting.{every, sum}
use Rattle.profile.specs.Rules.{no_share, share_in}
use Rattle.profile.specs.Sample.{sample, sample_share}
use Rattle.profile.specs.declared.Shares.{Shares}
use Rattle.places.specs.Held.{no_place, place_in, no_places, waits_at, held_of, used_of, free_of, owed_of, owed_all, owed_others, load_of, admits_of}
use Rattle.places.specs.Grounds.{second_ok, call_ok, apart, alone_at, under_ceiling, places_ok}
use Rattle.places.specs.Spots.{no_spot, spot_at, lowest_from, has_call, place_of, lowest_free, place_for, take_of, clear_of, move_of}
use Rattle.places.specs.declared.Call as places
use Rattle.places.specs.declared.Place.{Place}
use Rattle.places.specs.declared.Spot.{Spot}

-- ---- desks

-- a call with this identifier, at this post, and the place where it waits
abbrev pub at : ℕ → ℕ → places.Call
at identifier post = record { identifier = identifier; post = post; more = false; second = 0; cause = 0 }

abbrev pub call : ℕ → ℕ → Place
call identifier post = place_for (at identifier post)

-- the same, with a post that is asked second
abbrev pub call_then : ℕ → ℕ → ℕ → Place
call_then identifier post second = record { used = true; identifier = identifier; post = post; more = true; second = second; cause = 0 }

-- a call with a cause, and maybe a second post
abbrev pub call_with : ℕ → ℕ → Bool → ℕ → ℕ → Place
call_with identifier post more second cause = record { used = true; identifier = identifier; post = post; more = more; second = second; cause = cause }

-- as many calls, waiting at a post, with identifiers from k on
abbrev pub calls : ℕ → ℕ → ℕ → List Place
calls zero post k = []
calls (suc n) post k = call k post ∷ calls n post (suc k)

-- these places, and free ones up to 32
abbrev pub desk : List Place → List Place
desk l = l ++ replicate (32 - length l) no_place

-- so many calls wait at post 0, and so many at post 1
abbrev pub two : ℕ → ℕ → List Place
two a b = desk (calls a 0 0 ++ calls b 1 100)

-- ---- the places rule

-- of two posts that hold so many, whether a call for a post is admitted: under the sample profile, and where post 0 has 0 reserved of
-- at most 3 places and post 1 has 16 of at most 32
pub data Call : Type 0 where
  sampled : ℕ → ℕ → ℕ → Bool → Call
  capped : ℕ → ℕ → ℕ → Bool → Call

abbrev pub capped_shares : Shares
capped_shares =
    record {
      posts = 2;
      share = record { reserved = 0; ceiling = 3 } ∷ record { reserved = 16; ceiling = 32 } ∷ no_share ∷ no_share ∷ no_share ∷ no_share ∷ no_share ∷ no_share ∷ [];
    }

abbrev pub admitted : Call → Bool
admitted (sampled a b post want) = admits_of sample.shares (two a b) post
admitted (capped a b post want) = admits_of capped_shares (two a b) post

abbrev pub wanted : Call → Bool
wanted (sampled a b post want) = want
wanted (capped a b post want) = want

abbrev pub admissions : List Call
admissions =
    -- worked case 11: free 4, owed 4
    sampled 28 0 0 false
    ∷ sampled 28 0 1 true
    -- one less held: free 5, owed 4; one held by the other: free 3, owed 3, and free 4, owed 3
    ∷ sampled 27 0 0 true
    ∷ sampled 28 1 0 false
    ∷ sampled 27 1 0 true
    -- the last reserved place, and none free
    ∷ sampled 28 3 1 true
    ∷ sampled 28 4 1 false
    ∷ sampled 28 4 0 false
    -- nothing is owed: the last free place goes to either
    ∷ sampled 27 4 0 true
    ∷ sampled 27 4 1 true
    -- worked case 12, and one less
    ∷ sampled 0 8 1 false
    ∷ sampled 0 7 1 true
    ∷ sampled 0 8 0 true
    -- what is owed to the post itself is not owed to another: post 0 holds 1 of its 2
    ∷ sampled 0 0 0 true
    ∷ sampled 1 0 0 true
    -- post 1 beyond its reserved number, with 2 and 1 owed to post 0: free 26 and 25
    ∷ sampled 0 6 1 true
    ∷ sampled 1 6 1 true
    -- a ceiling of 3; and 16 owed, of 17 and 16 free places
    ∷ capped 2 0 0 true
    ∷ capped 3 0 0 false
    ∷ capped 0 16 1 true
    ∷ capped 3 28 1 true
    ∷ capped 3 29 1 false
    -- a post that is not there
    ∷ sampled 0 0 2 false
    ∷ sampled 0 0 255 false
    ∷ []

pub admissions_right : list.map admitted admissions ≡ list.map wanted admissions
unfolding both every sum share_in sample sample_share place_in waits_at held_of used_of free_of owed_of owed_others admits_of
admissions_right = refl

-- free and owed of worked case 11
pub case_11 : free_of (two 28 0) ∷ owed_others sample.shares (two 28 0) 0 ∷ held_of (two 28 0) 0 ∷ held_of (two 28 0) 1 ∷ [] ≡ 4 ∷ 4 ∷ 28 ∷ 0 ∷ []
unfolding both sum share_in sample sample_share place_in waits_at held_of used_of free_of owed_of owed_others
case_11 = refl

-- ---- the grounds of refusal 1

pub data Ground : Type 0 where
  good : List Place → Ground
  bad : List Place → Ground

abbrev pub passing : Ground → Bool
passing (good l) = places_ok sample.shares l
passing (bad l) = places_ok sample.shares l

abbrev pub meant : Ground → Bool
meant (good l) = true
meant (bad l) = false

-- a free place that still holds something
abbrev pub left : ℕ → ℕ → Place
left identifier post = record { used = false; identifier = identifier; post = post; more = true; second = 9; cause = 32 }

abbrev pub grounds : List Ground
grounds =
    good no_places
    -- an identifier of 14 bits, of 15, and of 16; the same in a free place
    ∷ good (desk (call 16383 0 ∷ []))
    ∷ bad (desk (call 16384 0 ∷ []))
    ∷ bad (set no_places 31 (call 65535 0))
    ∷ good (desk (left 16384 0 ∷ []))
    -- a post below the number of posts, and not; the same in a free place
    ∷ good (desk (call 5 1 ∷ []))
    ∷ bad (desk (call 5 2 ∷ []))
    ∷ bad (set no_places 31 (call 5 255))
    ∷ good (desk (left 5 2 ∷ []))
    -- a second post below the number of posts, and not; where there is none, what stands there is not looked at; its own post is no ground
    ∷ good (desk (call_then 5 0 1 ∷ []))
    ∷ bad (desk (call_then 5 0 2 ∷ []))
    ∷ bad (set no_places 31 (call_then 5 0 255))
    ∷ good (desk (record { used = true; identifier = 5; post = 0; more = false; second = 2; cause = 0 } ∷ []))
    ∷ good (desk (call_then 5 1 1 ∷ []))
    -- a cause of 5 bits, and of 6, in the first place and in the last; of 8 where a second post is asked
    ∷ good (desk (call_with 5 0 false 0 31 ∷ []))
    ∷ bad (desk (call_with 5 0 false 0 32 ∷ []))
    ∷ bad (set no_places 31 (call_with 5 0 false 0 32))
    ∷ bad (desk (call_with 5 0 true 1 255 ∷ []))
    -- two waiting calls with one identifier, beside each other and far apart, at one post and at two; one of them in a free place
    ∷ good (desk (call 5 0 ∷ call 6 0 ∷ []))
    ∷ bad (desk (call 5 0 ∷ call 5 0 ∷ []))
    ∷ bad (set (desk (call 5 0 ∷ [])) 31 (call 5 1))
    ∷ good (set (desk (call 5 0 ∷ [])) 31 (left 5 1))
    ∷ good (set (desk (left 5 0 ∷ [])) 31 (call 5 1))
    ∷ good (desk (left 5 0 ∷ left 5 0 ∷ []))
    -- a post at its ceiling, and over it
    ∷ good (two 0 8)
    ∷ bad (two 0 9)
    -- held 28 and owed 4, held 28 + 4; held 29 and owed 4, held 29 and 1 and owed 3, held 29 and 4
    ∷ good (two 28 0)
    ∷ good (two 28 4)
    ∷ bad (two 29 0)
    ∷ bad (two 29 1)
    ∷ bad (desk (calls 29 0 0 ++ calls 4 1 100))
    ∷ good (two 24 8)
    ∷ []

pub grounds_right : list.map passing grounds ≡ list.map meant grounds
unfolding both every sum share_in sample sample_share place_in no_places waits_at held_of used_of owed_of owed_all load_of second_ok call_ok apart alone_at under_ceiling places_ok
grounds_right = refl

-- rows of posts that are not there are not looked at: row 2 has 200 reserved and a ceiling of 0
abbrev pub odd_shares : Shares
odd_shares =
    record {
      posts = 2;
      share =
          record { reserved = 2; ceiling = 30 }
          ∷ record { reserved = 4; ceiling = 8 }
          ∷ record { reserved = 200; ceiling = 0 }
          ∷ no_share ∷ no_share ∷ no_share ∷ no_share ∷ no_share ∷ [];
    }

pub odd_right : places_ok odd_shares (two 28 0) ∷ admits_of odd_shares (two 27 0) 0 ∷ admits_of odd_shares (two 28 0) 0 ∷ [] ≡ true ∷ true ∷ false ∷ []
unfolding both every sum share_in place_in waits_at held_of used_of free_of owed_of owed_all owed_others load_of admits_of second_ok call_ok apart alone_at under_ceiling places_ok
odd_right = refl

-- ---- searches, and one place changed

abbrev pub spots : List Spot
spots =
    lowest_free no_places
    ∷ lowest_free (two 5 0)
    ∷ lowest_free (clear_of (two 28 4) 31)
    ∷ lowest_free (clear_of (clear_of (two 28 4) 20) 7)
    ∷ lowest_free (two 28 4)
    ∷ place_of (two 5 2) 0
    ∷ place_of (two 5 2) 101
    ∷ place_of (two 5 2) 102
    ∷ place_of (two 5 2) 65541
    -- identifier 0 waits nowhere, though each free place has a 0; a free place's rest is no call
    ∷ place_of no_places 0
    ∷ place_of (set no_places 3 (left 5 0)) 5
    -- of two the lower
    ∷ place_of (set (set no_places 3 (call 5 0)) 9 (call 5 1)) 5
    ∷ []

pub spots_right : spots
    ≡ spot_at 0 ∷ spot_at 5 ∷ spot_at 31 ∷ spot_at 7 ∷ no_spot ∷ spot_at 0 ∷ spot_at 6 ∷ no_spot ∷ no_spot ∷ no_spot ∷ no_spot ∷ spot_at 3 ∷ []
unfolding both lowest_from place_in no_places has_call place_of lowest_free clear_of
spots_right = refl

-- a place taken twice has the second call whole; number 32 is no place; a cleared place is all zero
pub changes_right : take_of (take_of no_places 3 (at 5 1)) 3 (at 6 0) ∷ take_of no_places 32 (at 5 1) ∷ clear_of (take_of no_places 31 (at 5 1)) 31 ∷ clear_of (two 28 4) 32 ∷ []
    ≡ set no_places 3 (call 6 0) ∷ no_places ∷ no_places ∷ two 28 4 ∷ []
unfolding no_places take_of clear_of
changes_right = refl

-- a call that moves keeps its place, its identifier and its cause, waits at the second post, and has no second; number 32 is no place
pub moves_right : move_of (set no_places 3 (call_with 5 0 true 1 2)) 3 ∷ move_of (set no_places 3 (call_then 5 1 1)) 3 ∷ move_of (two 28 4) 32 ∷ []
    ≡ set no_places 3 (call_with 5 1 false 0 2) ∷ set no_places 3 (call 5 1) ∷ two 28 4 ∷ []
unfolding no_places place_in take_of move_of
moves_right = refl

-- whether the call in place 0 may move to its second post: its own place counts as free, and what is owed to its post may have risen
abbrev pub movable : List Place → ℕ → Bool
movable l second = admits_of sample.shares (clear_of l 0) second

abbrev pub movings : List Bool
movings =
    -- 28 at post 0 and none at post 1: post 1 is below its reserved number
    movable (two 28 0) 1
    -- 28 and 4, none free but this one: nothing is owed to post 0, so post 1 gets a fifth
    ∷ movable (two 28 4) 1
    -- 24 and 8: post 1 is at its ceiling
    ∷ movable (two 24 8) 1
    -- 24 and 7
    ∷ movable (two 24 7) 1
    -- 2 and 4, of which post 0 is owed one more once its call is gone; of 27 free places it is enough
    ∷ movable (two 2 4) 1
    ∷ []

pub movings_right : movings ≡ true ∷ true ∷ false ∷ true ∷ true ∷ []
unfolding both every sum share_in sample sample_share place_in waits_at held_of used_of free_of owed_of owed_others admits_of clear_of
movings_right = refl

-- all 32 held, 2 by post 0, which has 2 reserved, and 30 by post 1, which may have 31: once its call is gone post 0 is owed one, as many
-- as are free, so post 1 does not get it
abbrev pub wide_shares : Shares
wide_shares =
    record {
      posts = 2;
      share = record { reserved = 2; ceiling = 30 } ∷ record { reserved = 4; ceiling = 31 } ∷ no_share ∷ no_share ∷ no_share ∷ no_share ∷ no_share ∷ no_share ∷ [];
    }

pub owed_right : admits_of wide_shares (clear_of (two 2 30) 0) 1 ∷ admits_of wide_shares (clear_of (two 3 29) 0) 1 ∷ [] ≡ false ∷ true ∷ []
unfolding both every sum share_in place_in waits_at held_of used_of free_of owed_of owed_others admits_of clear_of
owed_right = refl
