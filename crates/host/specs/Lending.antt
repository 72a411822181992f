-- What is lent for one call, and what a call leaves of it. The step itself is desk's `step_of`.
use Rattle.std.specs.Prelude.{ℕ, zero, suc, ◌≡◌, Bool, cond, List, [], ◌∷◌, length, set}
use Rattle.records.specs.Records.{no_record, row_of}
use Rattle.records.specs.declared.Marks.{Marks}
use Rattle.records.specs.declared.Record.{Record}
use Rattle.profile.specs.declared.Share.{Share}
use Rattle.desk.specs.Changes.{change_of}
use Rattle.desk.specs.Steps.{step_of, area_after}
use Rattle.desk.specs.declared.Change.{Change}
use Rattle.desk.specs.declared.Desk.{Desk}
use Rattle.desk.specs.declared.Event.{Event}
use Rattle.desk.specs.declared.Stepped.{Stepped}
use Rattle.host.specs.declared.Told.{Told}

-- ---- the records as the step takes them

-- room for n: the first n of these, and no record past the last of them
unfoldable pub first_of : ℕ → List Record → List Record
first_of zero rows = []
first_of (suc n) [] = no_record ∷ first_of n []
first_of (suc n) (r ∷ rows) = r ∷ first_of n rows

unfoldable pub loaded_of : List Record → List Record
loaded_of rows = first_of 128 rows

-- ---- marks

-- a record with this mark, and nothing else changed
abbrev pub mark_as : Bool → Record → Record
mark_as m r = record { in_use = r.in_use; ssi = r.ssi; extension = r.extension; post = r.post; active = m }

-- the mark of record i, where there is one
abbrev pub set_mark : List Record → ℕ → Bool → List Record
set_mark rows i m = set rows i (mark_as m (row_of rows i))

-- the marks that are said become this; a record past the last of them stays
unfoldable pub marked_as : Bool → List Record → List Bool → List Record
marked_as to [] ms = []
marked_as to (r ∷ rows) [] = r ∷ rows
marked_as to (r ∷ rows) (m ∷ ms) = cond m (mark_as to r) r ∷ marked_as to rows ms

abbrev pub marked_by : List Record → Marks → List Record
marked_by rows ms = marked_as ms.mark rows ms.at

-- ---- the call

-- what the host is told: the answer, how many messages are laid in the output area, and their lengths in bits
abbrev pub told_of : Stepped → Told
told_of s = record { answer = s.answer; laid = s.laid }

-- the step on what is lent: the number of records is the true one, also where it is over 128
abbrev pub step_on : Desk → List Record → List ℕ → List ℕ → Event → Stepped
step_on d rows l area e = step_of d (loaded_of rows) (length rows) l area e

-- what the host is told, and the desk, the records and the output area afterwards
pub record Called (d : Desk) (rows : List Record) (l area : List ℕ) (e : Event) (t : Told) (d₁ : Desk) (rows₁ : List Record) (area₁ : List ℕ) : Type 0 where
  pub told : t ≡ told_of (step_on d rows l area e)
  pub desk : d₁ ≡ (step_on d rows l area e).desk
  pub records : rows₁ ≡ marked_by rows (step_on d rows l area e).marks
  pub output : area₁ ≡ area_after d (loaded_of rows) (length rows) l area e

-- ---- new shares

-- what the host is told, and the desk afterwards
pub record SharesChanged (d : Desk) (rows : List Share) (x : Change) (d₁ : Desk) : Type 0 where
  pub told : x ≡ (change_of d rows).change
  pub desk : d₁ ≡ (change_of d rows).desk
