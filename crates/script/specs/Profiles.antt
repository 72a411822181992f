-- The profile of a `profile` line and the rows of a `shares` line, from the line's row of numbers. Of a profile: SS HOME U N M0 .. M15
-- POSTS R0 C0 [R1 C1 ..] [REASON REASON]: one pair more than POSTS has INTERROGATE ACK's two reasons as its last. Every row gives a profile; one that no profile can have gives one that breaks a rule, and opening a desk with it
-- is refused with 1.
use Rattle.std.specs.Prelude.{ℕ, ◌+◌, ◌-◌, ◌*◌, ◌/◌, ◌%◌, Bool, true, false, cond, List, [], ◌∷◌, eqb, leb, get_or}
use Rattle.profile.specs.Rules.{meaning_of, no_profile}
use Rattle.profile.specs.declared.Air.{Air}
use Rattle.profile.specs.declared.Meaning.{Meaning}
use Rattle.profile.specs.declared.Profile.{Profile}
use Rattle.profile.specs.declared.Share.{Share}
use Rattle.profile.specs.declared.Shares.{Shares}

-- a number in a byte: over 255 it is 255, which no rule allows anywhere
unfoldable pub byte_of : ℕ → ℕ
byte_of n = cond (leb n 255) n 255

-- a meaning by a line's number
unfoldable pub meaning_by : ℕ → Meaning
meaning_by n = meaning_of (byte_of n)

-- range value v's meaning is number 4 + v of the row
unfoldable pub meanings_of : List ℕ → List Meaning
meanings_of row =
    meaning_by (get_or row 4 0) ∷ meaning_by (get_or row 5 0) ∷ meaning_by (get_or row 6 0) ∷ meaning_by (get_or row 7 0)
    ∷ meaning_by (get_or row 8 0) ∷ meaning_by (get_or row 9 0) ∷ meaning_by (get_or row 10 0) ∷ meaning_by (get_or row 11 0)
    ∷ meaning_by (get_or row 12 0) ∷ meaning_by (get_or row 13 0) ∷ meaning_by (get_or row 14 0) ∷ meaning_by (get_or row 15 0)
    ∷ meaning_by (get_or row 16 0) ∷ meaning_by (get_or row 17 0) ∷ meaning_by (get_or row 18 0) ∷ meaning_by (get_or row 19 0)
    ∷ []

-- so many pairs are one more than the posts that the line says, number 20 of the row: the last one has the reasons
unfoldable pub has_reasons : ℕ → ℕ → Bool
has_reasons said pairs = eqb (said + 1) pairs

-- the reasons of such a line, or what stands for them where they are left out
unfoldable pub reason_of : List ℕ → Bool → ℕ → ℕ → ℕ
reason_of row has at otherwise = cond has (byte_of (get_or row at 0)) otherwise

unfoldable pub air_of : List ℕ → ℕ → Air
air_of row pairs =
    record {
      ss = byte_of (get_or row 0 0);
      home = get_or row 1 0;
      meanings = meanings_of row;
      unknown = byte_of (get_or row 2 0);
      other = byte_of (get_or row 3 0);
      unrecorded = reason_of row (has_reasons (get_or row 20 0) pairs) (19 + 2 * pairs) 1;
      elsewhere = reason_of row (has_reasons (get_or row 20 0) pairs) (19 + 2 * pairs + 1) 2;
    }

-- a post's pair, reserved and ceiling, from this number of the row on
unfoldable pub share_of : ℕ → ℕ → Share
share_of reserved ceiling = record { reserved = byte_of reserved; ceiling = byte_of ceiling }

-- POSTS is number 20. Where it is neither the number of pairs nor one less there are no posts, which breaks a rule.
unfoldable pub posts_of : ℕ → ℕ → ℕ
posts_of said pairs = cond (eqb said pairs) pairs (cond (has_reasons said pairs) (byte_of said) 0)

-- eight pairs from number `at` of the row on
unfoldable pub share_row : List ℕ → ℕ → List Share
share_row row at =
    share_of (get_or row at 0) (get_or row (at + 1) 0) ∷ share_of (get_or row (at + 2) 0) (get_or row (at + 3) 0)
    ∷ share_of (get_or row (at + 4) 0) (get_or row (at + 5) 0) ∷ share_of (get_or row (at + 6) 0) (get_or row (at + 7) 0)
    ∷ share_of (get_or row (at + 8) 0) (get_or row (at + 9) 0) ∷ share_of (get_or row (at + 10) 0) (get_or row (at + 11) 0)
    ∷ share_of (get_or row (at + 12) 0) (get_or row (at + 13) 0) ∷ share_of (get_or row (at + 14) 0) (get_or row (at + 15) 0)
    ∷ []

unfoldable pub shares_at : List ℕ → ℕ → ℕ → Shares
shares_at row at posts = record { posts = posts; share = share_row row at }

unfoldable pub shares_of : List ℕ → ℕ → Shares
shares_of row pairs = shares_at row 21 (posts_of (get_or row 20 0) pairs)

unfoldable pub profile_of : List ℕ → ℕ → Profile
profile_of row pairs = record { air = air_of row pairs; shares = shares_of row pairs }

-- 21 numbers and 1 to 9 pairs: how many pairs there are among so many numbers; 0 where they are no profile's
unfoldable pub pairs_in : ℕ → ℕ
pairs_in count = cond (leb 23 count) (cond (leb count 39) (cond (eqb (count % 2) 1) ((count - 21) / 2) 0) 0) 0

-- 1 to 8 pairs are a profile's, and 9 are with eight posts
unfoldable pub is_profile : ℕ → ℕ → Bool
is_profile said pairs = cond (leb 1 pairs) (cond (leb pairs 8) true (eqb said 8)) false

-- ---- new shares: R0 C0 [R1 C1 ..], 1 to 8 pairs; a pair that is left out is 0 0, as the row is beyond its count

unfoldable pub is_pairs : ℕ → Bool
is_pairs count = cond (leb 2 count) (cond (leb count 16) (eqb (count % 2) 0) false) false

-- the rows stand in a profile that has nothing else
unfoldable pub rows_of : List ℕ → Profile
rows_of row = record { air = no_profile.air; shares = shares_at row 0 0 }
