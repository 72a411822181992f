-- Whose mark ACTIVATE or DEACTIVATE changes: the records of the accepted identities. What the mark becomes, `to`, is handed on.
use Rattle.std.specs.Prelude.{ℕ, Option, Some, None, Bool, true, false, cond, ◌||◌, List, [], ◌∷◌, eqb, set, replicate}
use Rattle.records.specs.declared.Record.{Record}
use Rattle.records.specs.declared.Identity.{Identity}
use Rattle.records.specs.declared.Marks.{Marks}
use Rattle.records.specs.Records.{row_of, record_of}

-- the record of an identity, if it is a user of the post
abbrev pub accepted_by : List Record → ℕ → Option ℕ → Option ℕ
accepted_by rows post None = None
accepted_by rows post (Some i) = cond (eqb (row_of rows i).post post) (Some i) None

unfoldable pub accepted_of : List Record → ℕ → Identity → Option ℕ
accepted_of rows post id = accepted_by rows post (record_of rows id)

-- no record of 128
unfoldable pub unmarked : List Bool
unmarked = replicate 128 false

unfoldable pub nobody_marked : Bool → Marks
nobody_marked to = record { at = unmarked; mark = to }

-- what a call says that changes no mark
unfoldable pub no_marks : Marks
no_marks = nobody_marked false

abbrev pub with_by : List Bool → Option ℕ → List Bool
with_by at None = at
with_by at (Some i) = set at i true

-- one more record
unfoldable pub with_mark : Marks → Option ℕ → Marks
with_mark ms f = record { at = with_by ms.at f; mark = ms.mark }

unfoldable pub mark_all : List Record → ℕ → Marks → List Identity → Marks
mark_all rows post ms [] = ms
mark_all rows post ms (id ∷ ids) = mark_all rows post (with_mark ms (accepted_of rows post id)) ids

unfoldable pub marks_of : Bool → List Record → ℕ → List Identity → Marks
marks_of to rows post ids = mark_all rows post (nobody_marked to) ids

-- ---- record by record

abbrev pub is_at : ℕ → Option ℕ → Bool
is_at j None = false
is_at j (Some i) = eqb i j

-- record j is the accepted record of one of the identities
unfoldable pub wanted : List Record → ℕ → List Identity → ℕ → Bool
wanted rows post [] j = false
wanted rows post (id ∷ ids) j = is_at j (accepted_of rows post id) || wanted rows post ids j
