-- Outcomes one by one, each from one search. Assumes nothing.
use Prim.Native.Nat.{ℕ, zero, suc, ◌<◌, ◌≤◌, min}
use mathlib.Core.Path.{◌≡◌, refl, ap, ◌∙◌}
use mathlib.Core.Bool.{Bool, true, false, cond}
use mathlib.Core.List.{List, [], ◌∷◌, map}
use native.Mathlib.Nat.{le_of_suc-le-suc, not-suc-le-zero}
use native.Mathlib.Omega.{arith}
use lib.Dec.{eqb}
use lib.ListN.{length, length-map, get_or}
use borrow.Author.Tests.{eq-eqb, ne_eqb}
use Rattle.profile.specs.Counting.{one}
use Rattle.profile.specs.declared.Air.{Air}
use Rattle.message.specs.Groups.{span_of}
use Rattle.message.specs.declared.Group.{Group}
use Rattle.records.specs.declared.Record.{Record}
use Rattle.records.specs.declared.Identity.{Identity}
use Rattle.std.proofs.Common.{Option, Some, None}
use Rattle.records.specs.Identities.{no_identity, identity_at, count_of, identities_of}
use Rattle.records.specs.Records.{row_of, record_of}
use Rattle.records.specs.Outcomes.{outcome_by, outcome_of, outcomes_of}
use Rattle.records.specs.Marking.{accepted_of}
use Rattle.records.proofs.IdentityLaws.{length_identities, identities_at, count_le}

-- ---- one identity: its outcome, and the record whose mark is changed

module _ (f : Option ℕ) (rows : List Record) (id : Identity) (v : f ≡ record_of rows id) (post : ℕ) where
  module _ (e : f ≡ None) where
    pub out_none : (same : Bool) → 1 ≡ outcome_of rows post same id
    unfolding outcome_of
    out_none same = rw (← v, e)

    pub acc_none : None ≡ accepted_of rows post id
    unfolding accepted_of
    acc_none = rw (← v, e)

  module _ (i : ℕ) (e : f ≡ Some i) where
    pub out_yes : (row_of rows i).post ≡ post → (same : Bool) → 0 ≡ outcome_of rows post same id
    unfolding outcome_of
    out_yes h same = rw (← v, e, eq-eqb (row_of rows i).post post h)

    pub acc_yes : (row_of rows i).post ≡ post → Some i ≡ accepted_of rows post id
    unfolding accepted_of
    acc_yes h = rw (← v, e, eq-eqb (row_of rows i).post post h)

    pub out_other : ((row_of rows i).post ≡ post → ⊥) → (same : Bool) → cond same 1 2 ≡ outcome_of rows post same id
    unfolding outcome_of
    out_other h same = rw (← v, e, ne_eqb (row_of rows i).post post h)

    pub acc_no : ((row_of rows i).post ≡ post → ⊥) → None ≡ accepted_of rows post id
    unfolding accepted_of
    acc_no h = rw (← v, e, ne_eqb (row_of rows i).post post h)

-- an outcome is 0, 1 or 2
by_lt : (rows : List Record) (post : ℕ) (same : Bool) (f : Option ℕ) → outcome_by rows post same f < 3
by_lt rows post same None = omega arith
by_lt rows post same (Some i) = go (eqb (row_of rows i).post post) same
  where
    go : (a b : Bool) → cond a 0 (cond b 1 2) < 3
    go true b = omega arith
    go false true = omega arith
    go false false = omega arith

pub outcome_lt : (rows : List Record) (post : ℕ) (same : Bool) (id : Identity) → outcome_of rows post same id < 3
unfolding outcome_of
outcome_lt rows post same id = by_lt rows post same (record_of rows id)

-- ---- the outcomes of a group

map_at : (f : Identity → ℕ) (l : List Identity) (i z : ℕ) (d : Identity) → i < length l → get_or (map f l) i z ≡ f (get_or l i d)
map_at f [] i z d h = absurd (not-suc-le-zero h)
map_at f (x ∷ l) zero z d h = refl
map_at f (x ∷ l) (suc i) z d h = map_at f l i z d (le_of_suc-le-suc h)

module _ (air : Air) (g : Group) (rows : List Record) (post : ℕ) where
  pub outcomes_count : length (outcomes_of air g rows post) ≡ count_of air g
  unfolding outcomes_of
  outcomes_count = length-map (identities_of air g) _ ∙ length_identities air g

  -- one for each identity
  pub length_outcomes : length (outcomes_of air g rows post) ≡ min (span_of air g) 64
  unfolding count_of
  length_outcomes = outcomes_count

  pub outcomes_le : length (outcomes_of air g rows post) ≤ 64
  outcomes_le = rw outcomes_count (count_le air g)

  pub outcome_at : (i : ℕ) → i < count_of air g
      → get_or (outcomes_of air g rows post) i 0 ≡ outcome_of rows post (eqb air.unknown air.other) (identity_at air g i)
  unfolding outcomes_of
  outcome_at i h =
      map_at (outcome_of rows post (eqb air.unknown air.other)) (identities_of air g) i 0 no_identity (rw (length_identities air g) h)
      ∙ ap (outcome_of rows post (eqb air.unknown air.other)) (identities_at air g i h)

-- ---- one bit

pub one_lt : (b : Bool) → one b < 2
one_lt true = omega arith
one_lt false = omega arith
