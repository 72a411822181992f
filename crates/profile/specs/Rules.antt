-- The rules of a profile: document 01, "Profile".
use Rattle.std.specs.Prelude.{ℕ, Bool, true, false, cond, List, eqb, leb, get_or, replicate, Result, Ok, Err}
use Rattle.codec.specs.Codec.{both}
use Rattle.codec.specs.Stops.{refusal}
use Rattle.codec.specs.declared.Stop.{Stop}
use Rattle.profile.specs.Counting.{every, sum, lowest_from}
use Rattle.profile.specs.declared.Kind.{Kind}
use Rattle.profile.specs.declared.Kind.TheVariants as kind
use Rattle.profile.specs.declared.Meaning.{Meaning}
use Rattle.profile.specs.declared.Air.{Air}
use Rattle.profile.specs.declared.Share.{Share}
use Rattle.profile.specs.declared.Shares.{Shares}
use Rattle.profile.specs.declared.Profile.{Profile}

-- ---- range values

abbrev pub reserved : Meaning
reserved = record { kind = kind.Reserved; count = 0 }

-- a meaning by its number, as bytes and lines have it: 0 reserved, 16 nobody, 17 first and last, any other a list of that many
unfoldable pub meaning_of : ℕ → Meaning
meaning_of n =
    cond (eqb n 0) reserved
    (cond (eqb n 16) (record { kind = kind.Nobody; count = 0 })
    (cond (eqb n 17) (record { kind = kind.FirstLast; count = 0 }) (record { kind = kind.Listed; count = n })))

-- a list has 1 to 15 addresses
abbrev pub list_ok : ℕ → Bool
list_ok n = both (leb 1 n) (leb n 15)

abbrev pub meaning_ok_by : Kind → ℕ → Bool
meaning_ok_by kind.Reserved n = true
meaning_ok_by kind.Nobody n = true
meaning_ok_by kind.Listed n = list_ok n
meaning_ok_by kind.FirstLast n = true

-- the length counts for a list alone
unfoldable pub meaning_ok : Meaning → Bool
meaning_ok m = meaning_ok_by m.kind m.count

-- what range value r means
unfoldable pub meaning_in : List Meaning → ℕ → Meaning
meaning_in meanings r = get_or meanings r reserved

abbrev pub is_one_by : Kind → ℕ → Bool
is_one_by kind.Reserved n = false
is_one_by kind.Nobody n = false
is_one_by kind.Listed n = eqb n 1
is_one_by kind.FirstLast n = false

-- a list of one
unfoldable pub is_one : Meaning → Bool
is_one m = is_one_by m.kind m.count

-- the lowest range value that means it; 16 where none does
unfoldable pub list_of_one : List Meaning → ℕ
list_of_one meanings = lowest_from 16 0 (λ r. is_one (meaning_in meanings r))

-- ---- the part on the air: SS type 6 bits, home extension 24, U and N 7 each, INTERROGATE ACK's two reasons 3 each, sixteen meanings

unfoldable pub air_ok : Air → Bool
air_ok air =
    both (leb air.ss 63)
    (both (leb air.home 0xFF_FFFF)
    (both (leb air.unknown 127)
    (both (leb air.other 127)
    (both (leb air.unrecorded 7) (both (leb air.elsewhere 7) (every 16 (λ r. meaning_ok (meaning_in air.meanings r))))))))

-- ---- the shares: 1 to 8 posts, each with a ceiling 1 to 32 and a reserved number up to it; 32 places hold all that is reserved

abbrev pub no_share : Share
no_share = record { reserved = 0; ceiling = 0 }

unfoldable pub share_ok : Share → Bool
share_ok s = both (leb 1 s.ceiling) (both (leb s.ceiling 32) (leb s.reserved s.ceiling))

-- the share of post p
unfoldable pub share_in : List Share → ℕ → Share
share_in share p = get_or share p no_share

unfoldable pub shares_ok : Shares → Bool
shares_ok s =
    both (leb 1 s.posts)
    (both (leb s.posts 8)
    (both (every s.posts (λ p. share_ok (share_in s.share p))) (leb (sum s.posts (λ p. (share_in s.share p).reserved)) 32)))

-- ---- the whole

unfoldable pub profile_ok : Profile → Bool
profile_ok p = both (air_ok p.air) (shares_ok p.shares)

-- all zero: what stands in the place of a profile where there is none
unfoldable pub no_profile : Profile
no_profile =
    record {
      air = record { ss = 0; home = 0; meanings = replicate 16 reserved; unknown = 0; other = 0; unrecorded = 0; elsewhere = 0 };
      shares = record { posts = 0; share = replicate 8 no_share };
    }

-- the profile, or 1
unfoldable pub new_of : Air → Shares → Result Profile Stop
new_of air shares = cond (profile_ok (record { air = air; shares = shares })) (Ok (record { air = air; shares = shares })) (Err (refusal 1))
