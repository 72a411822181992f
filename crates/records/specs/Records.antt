-- User records: document 01, "User records and waiting calls". The rows are the records lent, numbered from 0.
use Rattle.std.specs.Prelude.{ℕ, Option, Some, None, suc, Bool, true, false, not, cond, List, [], ◌∷◌, eqb, leb, ltb, get_or, take}
use Rattle.std.specs.Bool.{then_some}
use Rattle.codec.specs.Codec.{both}
use Rattle.records.specs.declared.Record.{Record}
use Rattle.records.specs.declared.Identity.{Identity}
use Rattle.records.specs.declared.Party.{Party}

abbrev pub no_record : Record
no_record = record { in_use = false; ssi = 0; extension = 0; post = 0; active = false }

-- record i of the rows
unfoldable pub row_of : List Record → ℕ → Record
row_of rows i = get_or rows i no_record

-- ---- the record of an identity

-- the record is in use and has the identity
unfoldable pub is : Record → Identity → Bool
is r id = both r.in_use (both (eqb r.ssi id.ssi) (eqb r.extension id.extension))

-- the lowest-numbered record in use that has the identity, where the first of these is number i
unfoldable pub record_from : ℕ → List Record → Identity → Option ℕ
record_from i [] id = None
record_from i (r ∷ rows) id = cond (is r id) (Some i) (record_from (suc i) rows id)

unfoldable pub record_of : List Record → Identity → Option ℕ
record_of rows id = record_from 0 rows id

-- ---- the ground of refusal 15 does not hold

-- a record in use has a post below the number of posts, and an SSI and an extension of 24 bits; no other is looked at
unfoldable pub record_ok : ℕ → Record → Bool
record_ok posts r = cond r.in_use (both (ltb r.post posts) (both (leb r.ssi 0xFF_FFFF) (leb r.extension 0xFF_FFFF))) true

unfoldable pub all_ok : ℕ → List Record → Bool
all_ok posts [] = true
all_ok posts (r ∷ rows) = both (record_ok posts r) (all_ok posts rows)

-- of the rows handed in `count` are lent: at most 128
unfoldable pub records_ok : List Record → ℕ → ℕ → Bool
records_ok rows count posts = both (leb count 128) (all_ok posts (take count rows))

-- ---- INTERROGATE from a post: 0 no record, 1 another post's, 2 active, 3 not active

abbrev pub state_by : List Record → ℕ → Option ℕ → ℕ
state_by rows post None = 0
state_by rows post (Some i) = cond (eqb (row_of rows i).post post) (cond (row_of rows i).active 2 3) 1

unfoldable pub state_of : List Record → ℕ → Identity → ℕ
state_of rows post id = state_by rows post (record_of rows id)

-- ---- call set-up

-- a record restricts a call if its mark is set
unfoldable pub restricts : Record → Bool
restricts r = r.active

-- the post that a call is for, or none
abbrev pub no_party : Party
no_party = record { found = false; post = 0 }

unfoldable pub party_of : Record → Party
party_of r = record { found = true; post = r.post }

-- by the record of a party; `next` is what the parties after it give
abbrev pub restricted_by : List Record → Option ℕ → Party → Party
restricted_by rows None next = next
restricted_by rows (Some i) next = cond (restricts (row_of rows i)) (party_of (row_of rows i)) next

-- the post of the first party whose record restricts
unfoldable pub restricted_of : List Record → List Identity → Party
restricted_of rows [] = no_party
restricted_of rows (id ∷ ids) = restricted_by rows (record_of rows id) (restricted_of rows ids)

-- ---- the same, party by party

abbrev pub restricts_by : List Record → Option ℕ → Bool
restricts_by rows None = false
restricts_by rows (Some i) = restricts (row_of rows i)

-- a party is restricted if its record restricts
unfoldable pub is_restricted : List Record → Identity → Bool
is_restricted rows id = restricts_by rows (record_of rows id)

abbrev pub post_by : List Record → Option ℕ → ℕ
post_by rows None = 0
post_by rows (Some i) = (row_of rows i).post

-- the post of a party's record
unfoldable pub post_for : List Record → Identity → ℕ
post_for rows id = post_by rows (record_of rows id)

-- the post that is asked second (document 02, iii): the called party's, where both parties are restricted, at different posts
unfoldable pub second_of : List Record → Identity → Identity → Party
second_of rows caller called =
    cond (both (is_restricted rows caller) (both (is_restricted rows called) (not (eqb (post_for rows caller) (post_for rows called)))))
    (record { found = true; post = post_for rows called }) no_party

-- a party's post where its record restricts
unfoldable pub restricting : List Record → Identity → Option ℕ
restricting rows id = then_some (is_restricted rows id) (post_for rows id)

abbrev pub party_by : Option ℕ → Party
party_by None = no_party
party_by (Some post) = record { found = true; post = post }
