-- The outcomes of ACTIVATE and DEACTIVATE, and the masks of their ACKs: document 01, "User records and waiting calls".
use Rattle.std.specs.Prelude.{ℕ, Option, Some, None, Bool, false, not, cond, ◌||◌, List, [], ◌∷◌, map, eqb, ltb, get_or, length}
use Rattle.bits.specs.Fields.{field_at}
use Rattle.codec.specs.Codec.{both}
use Rattle.profile.specs.Counting.{one}
use Rattle.profile.specs.declared.Air.{Air}
use Rattle.message.specs.declared.Group.{Group}
use Rattle.records.specs.declared.Record.{Record}
use Rattle.records.specs.declared.Identity.{Identity}
use Rattle.records.specs.declared.Sorted.{Sorted}
use Rattle.records.specs.Identities.{identities_of}
use Rattle.records.specs.Records.{row_of, record_of}

-- ---- outcomes: 0 accepted, 1 failure U, 2 failure N

-- no record gives U, a record of another post N; where U = N (`same`) both failures are one
abbrev pub outcome_by : List Record → ℕ → Bool → Option ℕ → ℕ
outcome_by rows post same None = 1
outcome_by rows post same (Some i) = cond (eqb (row_of rows i).post post) 0 (cond same 1 2)

unfoldable pub outcome_of : List Record → ℕ → Bool → Identity → ℕ
outcome_of rows post same id = outcome_by rows post same (record_of rows id)

-- of each identity, in order
unfoldable pub outcomes_of : Air → Group → List Record → ℕ → List ℕ
outcomes_of air g rows post = map (outcome_of rows post (eqb air.unknown air.other)) (identities_of air g)

-- ---- masks

-- identity i has the outcome
unfoldable pub has : ℕ → List ℕ → ℕ → Bool
has class os i = both (ltb i (length os)) (eqb (get_or os i 0) class)

-- 64 bits: identity i, from 0, is bit 63 − i, a one just where its outcome is the class
unfoldable pub mask_of : ℕ → List ℕ → ℕ
mask_of class os = field_at (λ i. one (has class os i)) 0 64

-- there is an identity with the outcome
unfoldable pub some_of : ℕ → List ℕ → Bool
some_of class [] = false
some_of class (o ∷ os) = eqb o class || some_of class os

-- of each outcome
unfoldable pub sorted_of : List ℕ → Sorted
sorted_of os = record { some = some_of 0 os ∷ some_of 1 os ∷ some_of 2 os ∷ []; mask = mask_of 0 os ∷ mask_of 1 os ∷ mask_of 2 os ∷ [] }

-- the same, by the masks alone: an outcome is there exactly if its mask is not 0
unfoldable pub sorted_by : List ℕ → Sorted
sorted_by masks = record { some = not (eqb (get_or masks 0 0) 0) ∷ not (eqb (get_or masks 1 0) 0) ∷ not (eqb (get_or masks 2 0) 0) ∷ []; mask = masks }
