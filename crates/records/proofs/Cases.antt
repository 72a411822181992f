-- Worked case 9's outcomes, masks and marks, and one case for each rule of the records, as one checked list. Assumes nothing.
use Prim.Native.Nat.{ℕ}
use mathlib.Core.Path.{◌≡◌, refl}
use mathlib.Core.Bool.{true, false}
use mathlib.Core.List as list
use mathlib.Core.List.{List, [], ◌∷◌, ◌++◌}
use lib.ListN.{length, set, take, replicate}
use Rattle.bits.specs.Fields.{field_at}
use Rattle.codec.specs.Codec.{both}
use Rattle.profile.specs.Counting.{one}
use Rattle.profile.specs.Rules.{meaning_in}
use Rattle.profile.specs.Sample.{sample, sample_meanings}
use Rattle.profile.specs.declared.Air.{Air}
use Rattle.message.specs.Groups.{nobodies, span_in, span_of}
use Rattle.message.specs.declared.Address.{Address}
use Rattle.message.specs.declared.Group.{Group}
use Rattle.records.specs.declared.Record.{Record}
use Rattle.records.specs.declared.Identity.{Identity}
use Rattle.records.specs.Identities.{identity_of, later, identity_in, identity_at, count_of, each, identities_of}
use Rattle.records.specs.Records.{no_record, row_of, is, record_from, record_of, record_ok, all_ok, records_ok, state_of, restricts, party_of, restricted_of}
use Rattle.records.specs.Outcomes.{outcome_of, outcomes_of, has, mask_of, some_of, sorted_of}
use Rattle.records.specs.Marking.{accepted_of, unmarked, nobody_marked, with_mark, mark_all, marks_of}

-- the last argument is what it must be
pub data Case : Type 0 where
  -- ACTIVATE: the outcomes of a group from a post; those there, and their masks; the marks of the first four records
  outcomes : Air → List Record → ℕ → Group → List ℕ → Case
  masks : Air → List Record → ℕ → Group → List ℕ → Case
  marks : Air → List Record → ℕ → Group → List ℕ → Case
  -- how many identities a group has
  many : Air → Group → ℕ → Case
  -- INTERROGATE: the state of an address from a post
  state : Air → List Record → ℕ → Address → ℕ → Case
  -- set-up: whether a party of two is restricted, and the post
  party : List Record → Identity → Identity → List ℕ → Case
  -- refusal 15: of these records so many are lent, and there are so many posts; 1 is good
  lent : List Record → ℕ → ℕ → ℕ → Case

abbrev pub gives : Case → List ℕ
gives (outcomes air rows post g w) = outcomes_of air g rows post
gives (masks air rows post g w) = list.map one (sorted_of (outcomes_of air g rows post)).some ++ (sorted_of (outcomes_of air g rows post)).mask
gives (marks air rows post g w) = list.map one (take 4 (marks_of true rows post (identities_of air g)).at)
gives (many air g w) = length (identities_of air g) ∷ []
gives (state air rows post a w) = state_of rows post (identity_of air a) ∷ []
gives (party rows a b w) = one (restricted_of rows (a ∷ b ∷ [])).found ∷ (restricted_of rows (a ∷ b ∷ [])).post ∷ []
gives (lent rows n posts w) = one (records_ok rows n posts) ∷ []

abbrev pub wants : Case → List ℕ
wants (outcomes air rows post g w) = w
wants (masks air rows post g w) = w
wants (marks air rows post g w) = w
wants (many air g w) = w ∷ []
wants (state air rows post a w) = w ∷ []
wants (party rows a b w) = w
wants (lent rows n posts w) = w ∷ []

-- ---- profiles: the sample, the sample with U = N, the sample with home extension 5

abbrev pub air : Air
air = sample.air

abbrev pub equal : Air
equal = record { ss = 9; home = 0; meanings = sample_meanings; unknown = 1; other = 1; unrecorded = 1; elsewhere = 2 }

abbrev pub five : Air
five = record { ss = 9; home = 5; meanings = sample_meanings; unknown = 1; other = 2; unrecorded = 1; elsewhere = 2 }

-- ---- addresses and groups

-- kind 1
abbrev pub home : ℕ → Address
home s = record { kind = 1; ssi = s; extension = 0 }

-- kind 2
abbrev pub abroad : ℕ → ℕ → Address
abroad s e = record { kind = 2; ssi = s; extension = e }

abbrev pub pair : ℕ → ℕ → Identity
pair s e = record { ssi = s; extension = e }

abbrev pub two : ℕ → Address → Address → Group
two r a b = record { range = r; addresses = set (set nobodies 0 a) 1 b }

abbrev pub three : Address → Address → Address → Group
three a b c = record { range = 3; addresses = set (set (set nobodies 0 a) 1 b) 2 c }

-- worked case 8's four identities, 1,001 to 1,004
abbrev pub four : Group
four = two 15 (home 1001) (home 1004)

-- ---- records

-- in use, with SSI, extension and post; the mark clear, the mark set; not in use
abbrev pub clear : ℕ → ℕ → ℕ → Record
clear s e p = record { in_use = true; ssi = s; extension = e; post = p; active = false }

abbrev pub marked : ℕ → ℕ → ℕ → Record
marked s e p = record { in_use = true; ssi = s; extension = e; post = p; active = true }

abbrev pub unused : ℕ → ℕ → ℕ → Record
unused s e p = record { in_use = false; ssi = s; extension = e; post = p; active = true }

-- worked case 9's: 1,001 and 1,002 at post 0, 1,003 without record, 1,004 at post 1
abbrev pub nine : List Record
nine = clear 1001 0 0 ∷ clear 1002 0 0 ∷ clear 1004 0 1 ∷ []

-- 1,001 twice, first at post 1 and then at post 0
abbrev pub twice : List Record
twice = clear 1001 0 1 ∷ marked 1001 0 0 ∷ []

-- 1,001 in a record that is not in use, and then at post 0
abbrev pub after : List Record
after = unused 1001 0 1 ∷ clear 1001 0 0 ∷ []

abbrev pub cases : List Case
cases =
    -- worked case 9: outcomes 0 0 1 2, masks 1100, 0010, 0001, marks for 1,001 and 1,002
    outcomes air nine 0 four (0 ∷ 0 ∷ 1 ∷ 2 ∷ [])
    ∷ masks air nine 0 four (1 ∷ 1 ∷ 1 ∷ 0xC000_0000_0000_0000 ∷ 0x2000_0000_0000_0000 ∷ 0x1000_0000_0000_0000 ∷ [])
    ∷ marks air nine 0 four (1 ∷ 1 ∷ 0 ∷ 0 ∷ [])
    -- from post 1; from post 2, where nobody is accepted
    ∷ outcomes air nine 1 four (2 ∷ 2 ∷ 1 ∷ 0 ∷ [])
    ∷ marks air nine 1 four (0 ∷ 0 ∷ 1 ∷ 0 ∷ [])
    ∷ masks air nine 2 four (0 ∷ 1 ∷ 1 ∷ 0 ∷ 0x2000_0000_0000_0000 ∷ 0xD000_0000_0000_0000 ∷ [])
    ∷ marks air nine 2 four (0 ∷ 0 ∷ 0 ∷ 0 ∷ [])
    -- U = N: both failures are one
    ∷ outcomes equal nine 0 four (0 ∷ 0 ∷ 1 ∷ 1 ∷ [])
    ∷ masks equal nine 0 four (1 ∷ 1 ∷ 0 ∷ 0xC000_0000_0000_0000 ∷ 0x3000_0000_0000_0000 ∷ 0 ∷ [])
    -- one outcome: all accepted; no record lent; a record that is set already is accepted too
    ∷ masks air nine 0 (two 15 (home 1001) (home 1002)) (1 ∷ 0 ∷ 0 ∷ 0xC000_0000_0000_0000 ∷ 0 ∷ 0 ∷ [])
    ∷ masks air [] 0 four (0 ∷ 1 ∷ 0 ∷ 0 ∷ 0xF000_0000_0000_0000 ∷ 0 ∷ [])
    ∷ outcomes air (marked 1001 0 0 ∷ []) 0 (two 15 (home 1001) (home 1001)) (0 ∷ [])
    -- the same identity twice in a list, in the order of the list
    ∷ outcomes air nine 0 (three (home 1002) (home 1003) (home 1002)) (0 ∷ 1 ∷ 0 ∷ [])
    ∷ masks air nine 0 (three (home 1002) (home 1003) (home 1002)) (1 ∷ 1 ∷ 0 ∷ 0xA000_0000_0000_0000 ∷ 0x4000_0000_0000_0000 ∷ 0 ∷ [])
    ∷ marks air nine 0 (three (home 1002) (home 1003) (home 1002)) (0 ∷ 1 ∷ 0 ∷ 0 ∷ [])
    -- an identity in two records: the lower decides, also where the later one belongs to the asking post
    ∷ outcomes air twice 0 (two 15 (home 1001) (home 1001)) (2 ∷ [])
    ∷ marks air twice 0 (two 15 (home 1001) (home 1001)) (0 ∷ 0 ∷ 0 ∷ 0 ∷ [])
    ∷ marks air twice 1 (two 15 (home 1001) (home 1001)) (1 ∷ 0 ∷ 0 ∷ 0 ∷ [])
    -- a record that is not in use has no identity
    ∷ outcomes air after 0 (two 15 (home 1001) (home 1001)) (0 ∷ [])
    ∷ marks air after 0 (two 15 (home 1001) (home 1001)) (0 ∷ 1 ∷ 0 ∷ 0 ∷ [])
    ∷ outcomes air (unused 1001 0 0 ∷ []) 0 (two 15 (home 1001) (home 1001)) (1 ∷ [])
    -- kind 1 has the home extension, and kind 2 with it is the same user; another extension is a stranger
    ∷ outcomes five (clear 1001 5 0 ∷ []) 0 (three (home 1001) (abroad 1001 5) (abroad 1001 0)) (0 ∷ 0 ∷ 1 ∷ [])
    ∷ outcomes air (clear 1001 0 0 ∷ []) 0 (three (home 1001) (abroad 1001 0) (abroad 1001 5)) (0 ∷ 0 ∷ 1 ∷ [])
    -- a range has the extension of its first
    ∷ outcomes air (clear 1002 7 0 ∷ clear 1001 0 0 ∷ []) 0 (two 15 (abroad 1001 7) (abroad 1002 7)) (1 ∷ 0 ∷ [])
    -- 64 identities, and as many where a group that is not valid names more; "none" and a reserved range name nobody
    ∷ masks air [] 0 (two 15 (home 1) (home 64)) (0 ∷ 1 ∷ 0 ∷ 0 ∷ 0xFFFF_FFFF_FFFF_FFFF ∷ 0 ∷ [])
    ∷ many air (two 15 (home 1) (home 64)) 64
    ∷ many air (two 15 (home 1) (home 65)) 64
    ∷ many air (two 0 (home 1) (home 65)) 0
    ∷ masks air nine 0 (two 4 (home 1001) (home 1004)) (0 ∷ 0 ∷ 0 ∷ 0 ∷ 0 ∷ 0 ∷ [])
    -- states: no record, another post's, active, not active
    ∷ state air nine 0 (home 1003) 0
    ∷ state air nine 0 (home 1004) 1
    ∷ state air (marked 1001 0 0 ∷ []) 0 (home 1001) 2
    ∷ state air nine 0 (home 1001) 3
    -- the lower record's state; not the state of a record that is not in use; kind 2 with the home extension, and with another
    ∷ state air twice 0 (home 1001) 1
    ∷ state air twice 1 (home 1001) 3
    ∷ state air after 0 (home 1001) 3
    ∷ state five (marked 1001 5 0 ∷ []) 0 (abroad 1001 5) 2
    ∷ state five (marked 1001 5 0 ∷ []) 0 (home 1001) 2
    ∷ state five (marked 1001 5 0 ∷ []) 0 (abroad 1001 0) 0
    -- set-up: neither is restricted, the caller, the called, both; the posts are 1 and 2
    ∷ party (clear 1001 0 1 ∷ clear 1002 0 2 ∷ []) (pair 1001 0) (pair 1002 0) (0 ∷ 0 ∷ [])
    ∷ party (marked 1001 0 1 ∷ clear 1002 0 2 ∷ []) (pair 1001 0) (pair 1002 0) (1 ∷ 1 ∷ [])
    ∷ party (clear 1001 0 1 ∷ marked 1002 0 2 ∷ []) (pair 1001 0) (pair 1002 0) (1 ∷ 2 ∷ [])
    ∷ party (marked 1001 0 1 ∷ marked 1002 0 2 ∷ []) (pair 1001 0) (pair 1002 0) (1 ∷ 1 ∷ [])
    -- the caller has no record; neither has; both are the same; the higher-numbered record is the caller's
    ∷ party (marked 1002 0 2 ∷ []) (pair 1001 0) (pair 1002 0) (1 ∷ 2 ∷ [])
    ∷ party [] (pair 1001 0) (pair 1002 0) (0 ∷ 0 ∷ [])
    ∷ party (marked 1001 0 1 ∷ []) (pair 1001 0) (pair 1001 0) (1 ∷ 1 ∷ [])
    ∷ party (marked 1002 0 2 ∷ marked 1001 0 1 ∷ []) (pair 1001 0) (pair 1002 0) (1 ∷ 1 ∷ [])
    -- the lower record's mark counts, and none of a record that is not in use; an identity is a pair
    ∷ party twice (pair 1001 0) (pair 1002 0) (0 ∷ 0 ∷ [])
    ∷ party after (pair 1001 0) (pair 1001 0) (0 ∷ 0 ∷ [])
    ∷ party (marked 1001 5 1 ∷ []) (pair 1001 0) (pair 1001 5) (1 ∷ 1 ∷ [])
    ∷ party (marked 1001 5 1 ∷ []) (pair 1001 0) (pair 1001 4) (0 ∷ 0 ∷ [])
    -- 15 by its grounds: 128 and 129 records; post 2 of 2; an SSI and an extension of 24 bits, and of more
    ∷ lent nine 3 2 1
    ∷ lent (replicate 128 no_record) 128 2 1
    ∷ lent (replicate 129 no_record) 129 2 0
    ∷ lent (clear 1001 0 2 ∷ []) 1 2 0
    ∷ lent (clear 0xFF_FFFF 0xFF_FFFF 1 ∷ []) 1 2 1
    ∷ lent (clear 0x100_0000 0 1 ∷ []) 1 2 0
    ∷ lent (clear 1001 0x100_0000 1 ∷ []) 1 2 0
    -- the second of two; not where it is not in use, and not where it is not lent
    ∷ lent (clear 1001 0 0 ∷ clear 1002 0 2 ∷ []) 2 2 0
    ∷ lent (clear 1001 0 0 ∷ unused 0x100_0000 0x100_0000 2 ∷ []) 2 2 1
    ∷ lent (clear 1001 0 0 ∷ clear 1002 0 2 ∷ []) 1 2 1
    ∷ []

pub cases_right : list.map gives cases ≡ list.map wants cases
unfolding field_at both meaning_in sample sample_meanings nobodies span_in span_of identity_of later identity_in identity_at count_of each identities_of row_of is record_from record_of record_ok all_ok records_ok state_of restricts party_of restricted_of outcome_of outcomes_of has mask_of some_of sorted_of accepted_of unmarked nobody_marked with_mark mark_all marks_of
cases_right = refl
