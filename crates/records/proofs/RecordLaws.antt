-- The search for the record of an identity, a law for each turn and end of it, and what its answer says. Assumes nothing.
use Prim.Native.Nat.{ℕ, zero, suc, ◌+◌, ◌-◌, ◌<◌, ◌≤◌}
use mathlib.Core.Path.{◌≡◌, refl, sym, ◌∙◌, subst}
use mathlib.Core.Bool.{Bool, true, false, cond, ◌&&◌}
use mathlib.Core.List.{List, [], ◌∷◌}
use native.Mathlib.Numerals.{add-one}
use native.Mathlib.Omega.{arith}
use lib.Dec.{eqb}
use lib.ListN.{length, length-take, get_or, take, drop, drop_of_length-le}
use lib.Seq.{drop-cons, get_or-take}
use borrow.Author.Tests.{eqb-true}
use Rattle.std.proofs.Common.{Option, Some, None}
use Rattle.std.specs.List.{find, list_all, position_from}
use Rattle.std.specs.Option.{option_map}
use Rattle.codec.specs.Codec.{both}
use Rattle.codec.proofs.Good.{both_left, both_right}
use Rattle.records.specs.declared.Record.{Record}
use Rattle.records.specs.declared.Identity.{Identity}
use Rattle.records.specs.Records.{no_record, row_of, is, record_from, record_of, record_ok, all_ok}

-- ---- the search, as `position` and `find` make it

from_is : (i : ℕ) (rows : List Record) (id : Identity) → record_from i rows id ≡ position_from (λ r. is r id) i rows
unfolding record_from
from_is i [] id = refl
from_is i (r ∷ rows) id = rw (from_is (suc i) rows id, ← add-one i) refl

pub record_is : (rows : List Record) (id : Identity) → position_from (λ r. is r id) 0 rows ≡ record_of rows id
unfolding record_of
record_is rows id = sym (from_is 0 rows id)

next_from : (i : ℕ) (rows : List Record) (id : Identity) → record_from (suc i) rows id ≡ option_map suc (record_from i rows id)
unfolding record_from
next_from i [] id = refl
next_from i (r ∷ rows) id = rw (next_from (suc i) rows id) (go (is r id))
  where
    go : (b : Bool) → cond b (Some (suc i)) (option_map suc (record_from (suc i) rows id)) ≡ option_map suc (cond b (Some i) (record_from (suc i) rows id))
    go true = refl
    go false = refl

one_on : (r : Record) (rows : List Record) (f : Option ℕ) → option_map (row_of (r ∷ rows)) (option_map suc f) ≡ option_map (row_of rows) f
unfolding row_of
one_on r rows None = refl
one_on r rows (Some i) = refl

pub holder_is : (rows : List Record) (id : Identity) → find (λ r. is r id) rows ≡ option_map (row_of rows) (record_of rows id)
unfolding record_of record_from row_of
holder_is [] id = refl
holder_is (r ∷ rows) id = go (is r id) (holder_is rows id)
  where
    go : (b : Bool) → find (λ r. is r id) rows ≡ option_map (row_of rows) (record_from 0 rows id) → cond b (Some r) (find (λ r. is r id) rows) ≡ option_map (row_of (r ∷ rows)) (cond b (Some 0) (record_from 1 rows id))
    go true e = refl
    go false e = rw (next_from 0 rows id, one_on r rows (record_from 0 rows id)) e

-- ---- what is left of the search at record i, as a loop makes it

unfoldable pub rec_left : List Record → Identity → ℕ → Option ℕ
rec_left rows id i = record_from i (drop i rows) id

pub rec_start : (rows : List Record) (id : Identity) → record_of rows id ≡ rec_left rows id 0
unfolding rec_left record_of
rec_start rows id = refl

module _ (x : Option ℕ) (rows : List Record) (id : Identity) (i : ℕ) (v : x ≡ rec_left rows id i) where
  pub rec_more : i < length rows → is (get_or rows i no_record) id ≡ false → x ≡ rec_left rows id (i + 1)
  unfolding record_from rec_left
  rec_more h e = v ∙ rw (add-one, drop-cons rows i no_record h) (rw e refl)

  pub rec_here : i < length rows → is (get_or rows i no_record) id ≡ true → x ≡ Some i
  unfolding record_from rec_left
  rec_here h e = v ∙ rw (drop-cons rows i no_record h) (rw e refl)

  pub rec_end : length rows ≤ i → x ≡ None
  unfolding record_from rec_left
  rec_end h = v ∙ rw (drop_of_length-le rows h)

-- ---- refusal 15, as `all` makes it

pub all_is : (posts : ℕ) (rows : List Record) → list_all (record_ok posts) rows ≡ all_ok posts rows
unfolding all_ok both
all_is posts [] = refl
all_is posts (r ∷ rows) = rw (all_is posts rows) (go (record_ok posts r))
  where
    go : (b : Bool) → (b && all_ok posts rows) ≡ both b (all_ok posts rows)
    go true = refl
    go false = refl

-- ---- record-lowest: the search finds the lowest-numbered record in use that has the identity

-- a record that is in use, and its two numbers are the identity's
pub is_it : (r : Record) (id : Identity) → is r id ≡ true → (r.in_use ≡ true) × ((r.ssi ≡ id.ssi) × (r.extension ≡ id.extension))
unfolding is
is_it r id e =
    let f = both_right r.in_use _ e in
    (both_left _ _ e, (eqb-true r.ssi id.ssi (both_left _ _ f), eqb-true r.extension id.extension (both_right (eqb r.ssi id.ssi) _ f)))

not_no_record : (id : Identity) → is no_record id ≡ false
unfolding is both
not_no_record id = refl

-- what an answer says: none has the identity; or record i has it and no lower one does
abbrev pub Lowest : List Record → Identity → Option ℕ → Type 0
Lowest rows id None = (j : ℕ) → is (row_of rows j) id ≡ false
Lowest rows id (Some i) = (i < length rows) × ((is (row_of rows i) id ≡ true) × ((j : ℕ) → j < i → is (row_of rows j) id ≡ false))

-- the same where the first record is number k
abbrev LowestFrom : ℕ → List Record → Identity → Option ℕ → Type 0
LowestFrom k rows id None = (j : ℕ) → is (row_of rows j) id ≡ false
LowestFrom k rows id (Some i) =
    (k ≤ i) × ((i < k + length rows) × ((is (row_of rows (i - k)) id ≡ true) × ((j : ℕ) → j < i - k → is (row_of rows j) id ≡ false)))

module _ (r : Record) (rows : List Record) (id : Identity) (no : is r id ≡ false) where
  none_before : (n : ℕ) → ((j : ℕ) → j < n → is (row_of rows j) id ≡ false) → (j : ℕ) → j < suc n → is (row_of (r ∷ rows) j) id ≡ false
  unfolding row_of
  none_before n f zero h = no
  none_before n f (suc j) h = f j (omega arith)

  none_at : ((j : ℕ) → is (row_of rows j) id ≡ false) → (j : ℕ) → is (row_of (r ∷ rows) j) id ≡ false
  unfolding row_of
  none_at f zero = no
  none_at f (suc j) = f j

  one_more : (k : ℕ) (f : Option ℕ) → LowestFrom (suc k) rows id f → LowestFrom k (r ∷ rows) id f
  unfolding row_of
  one_more k None l = none_at l
  one_more k (Some i) l =
      let le : suc k ≤ i = l.0 in
      let lt : i < suc k + length rows = l.1.0 in
      let s : i - k ≡ suc (i - suc k) = omega arith in
      let below : (j : ℕ) → j < suc (i - suc k) → is (row_of (r ∷ rows) j) id ≡ false = none_before (i - suc k) l.1.1.1 in
      (omega arith, (omega arith, (rw s l.1.1.0, λ j h. below j (omega arith))))

lowest_from_lem : (k : ℕ) (rows : List Record) (id : Identity) → LowestFrom k rows id (record_from k rows id)
unfolding record_from row_of
lowest_from_lem k [] id = λ j. not_no_record id
lowest_from_lem k (r ∷ rows) id = go (is r id) refl (lowest_from_lem (suc k) rows id)
  where
    go : (b : Bool) → is r id ≡ b → LowestFrom (suc k) rows id (record_from (suc k) rows id)
        → LowestFrom k (r ∷ rows) id (cond b (Some k) (record_from (suc k) rows id))
    go true e l =
        let z : k - k ≡ 0 = omega arith in
        (omega arith, (omega arith, (rw z e, λ j h. absurd (omega arith))))
    go false e l = one_more r rows id e k (record_from (suc k) rows id) l

lowest_is : (rows : List Record) (id : Identity) (f : Option ℕ) → LowestFrom 0 rows id f → Lowest rows id f
lowest_is rows id None l = l
lowest_is rows id (Some i) l =
    let z : i - 0 ≡ i = omega arith in
    let lt : i < 0 + length rows = l.1.0 in
    (omega arith, (rw z at l.1.1.0, λ j h. l.1.1.1 j (rw z h)))

pub record_lowest : (rows : List Record) (id : Identity) → Lowest rows id (record_of rows id)
unfolding record_of
record_lowest rows id = lowest_is rows id (record_from 0 rows id) (lowest_from_lem 0 rows id)

-- ---- the record that is found is one of the rows

pub found_in : (f : Option ℕ) (rows : List Record) (id : Identity) (i : ℕ) → f ≡ record_of rows id → f ≡ Some i → i < length rows
found_in f rows id i v e = (subst (λ (g : Option ℕ). Lowest rows id g) (sym v ∙ e) (record_lowest rows id)).0

-- and of rows of which the first n are lent: it is the row that stands there
module _ (rows : List Record) (n i : ℕ) where
  pub row_in : i < n → get_or rows i no_record ≡ row_of (take n rows) i
  unfolding row_of
  row_in h = sym (get_or-take n rows i no_record h)

pub found_row : (f : Option ℕ) (rows : List Record) (n : ℕ) (id : Identity) (i : ℕ) → f ≡ record_of (take n rows) id → f ≡ Some i
    → get_or rows i no_record ≡ row_of (take n rows) i
found_row f rows n id i v e = row_in rows n i (omega (arith, found_in f (take n rows) id i v e, length-take n rows))
