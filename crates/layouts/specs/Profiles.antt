-- A profile in 41 bytes: [0] SS type; [1-3] home extension; [4] U; [5] N; [6-21] sixteen meanings; [22] posts; [23-38] eight pairs of a
-- reserved number and a ceiling, zero for posts that aren't there; [39] [40] INTERROGATE ACK's reasons for no record and for another post's.
use Rattle.std.specs.Prelude.{ℕ, ◌+◌, ◌*◌, Bool, List, [], ◌∷◌, ◌++◌, eqb, leb, length, get_or, take, drop}
use Rattle.codec.specs.Codec.{both}
use Rattle.profile.specs.Counting.{every}
use Rattle.profile.specs.Rules.{meaning_of, profile_ok}
use Rattle.profile.specs.declared.Kind.{Kind}
use Rattle.profile.specs.declared.Kind.TheVariants as kind
use Rattle.profile.specs.declared.Meaning.{Meaning}
use Rattle.profile.specs.declared.Air.{Air}
use Rattle.profile.specs.declared.Share.{Share}
use Rattle.profile.specs.declared.Shares.{Shares}
use Rattle.profile.specs.declared.Profile.{Profile}
use Rattle.layouts.specs.Bytes.{number_from, number_bytes, rows_from, rows_bytes, are_zero}

-- ---- a meaning: 0 reserved, 1 to 15 a list of that many, 16 nobody, 17 first and last

abbrev pub byte_by : Kind → ℕ → ℕ
byte_by kind.Reserved n = 0
byte_by kind.Nobody n = 16
byte_by kind.Listed n = n
byte_by kind.FirstLast n = 17

unfoldable pub meaning_bytes : Meaning → List ℕ
meaning_bytes m = byte_by m.kind m.count ∷ []

abbrev pub meaning_from : List ℕ → Meaning
meaning_from l = meaning_of (get_or l 0 0)

-- ---- a share

unfoldable pub share_bytes : Share → List ℕ
share_bytes s = s.reserved ∷ s.ceiling ∷ []

unfoldable pub share_from : List ℕ → Share
share_from l = record { reserved = get_or l 0 0; ceiling = get_or l 1 0 }

-- ---- the whole

unfoldable pub profile_bytes : Profile → List ℕ
profile_bytes p =
    p.air.ss
    ∷ number_bytes 3 p.air.home
    ++ p.air.unknown
    ∷ p.air.other
    ∷ rows_bytes meaning_bytes p.air.meanings
    ++ p.shares.posts
    ∷ rows_bytes share_bytes p.shares.share
    ++ p.air.unrecorded
    ∷ p.air.elsewhere
    ∷ []

unfoldable pub air_from : List ℕ → Air
air_from l =
    record {
      ss = get_or l 0 0;
      home = number_from 3 (drop 1 l);
      meanings = rows_from meaning_from 1 16 (drop 6 l);
      unknown = get_or l 4 0;
      other = get_or l 5 0;
      unrecorded = get_or l 39 0;
      elsewhere = get_or l 40 0;
    }

unfoldable pub shares_from : List ℕ → Shares
shares_from l = record { posts = get_or l 22 0; share = rows_from share_from 2 8 (drop 23 l) }

unfoldable pub profile_from : List ℕ → Profile
profile_from l = record { air = air_from l; shares = shares_from l }

-- of the bytes up to the last row: nothing in those past the posts
unfoldable pub spare_zero : List ℕ → Bool
spare_zero l = are_zero (drop (23 + 2 * get_or l 22 0) l)

-- no meaning over 17, and nothing in the rows past the posts
unfoldable pub is_profile : List ℕ → Bool
is_profile l = both (eqb (length l) 41) (both (every 16 (λ r. leb (get_or l (6 + r) 0) 17)) (spare_zero (take 39 l)))

-- 1 where this fails
unfoldable pub passes : List ℕ → Bool
passes l = both (is_profile l) (profile_ok (profile_from l))
