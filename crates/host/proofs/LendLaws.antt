-- Laws of what is lent: loading, and marking record by record as the loop goes. Assumes nothing.
use Prim.Native.Nat.{ℕ, zero, suc, ◌+◌, min}
use mathlib.Core.Path.{◌≡◌, refl, sym, ap, ◌∙◌}
use mathlib.Core.Bool.{Bool, true, false, cond}
use mathlib.Core.List.{List, [], ◌∷◌, ◌++◌}
use native.Mathlib.Numerals.{add-one}
use native.Mathlib.Omega.{arith}
use lib.ListN.{length, set, get_or, take, drop, replicate}
use Rattle.records.specs.Records.{no_record, row_of}
use Rattle.records.specs.declared.Record.{Record}
use Rattle.host.specs.Lending.{first_of, loaded_of, mark_as, marked_as}

-- ---- one record set

pub set_mark_in : (rows : List Record) (i : ℕ) (m : Bool) → set rows i (mark_as m (get_or rows i no_record)) ≡ set rows i (mark_as m (row_of rows i))
unfolding row_of
set_mark_in rows i m = refl

-- ---- loading

first_none : (n : ℕ) → replicate n no_record ≡ first_of n []
unfolding first_of
first_none zero = refl
first_none (suc n) = ap (λ (l : List Record). no_record ∷ l) (first_none n)

first_copied : (n m : ℕ) (rows : List Record) → m ≡ min (length rows) n → take m rows ++ drop m (replicate n no_record) ≡ first_of n rows
unfolding first_of
first_copied zero zero rows h = refl
first_copied zero (suc m) rows h = absurd (omega arith)
first_copied (suc n) zero [] h = first_none (suc n)
first_copied (suc n) zero (r ∷ rows) h = absurd (omega arith)
first_copied (suc n) (suc m) [] h = absurd (omega arith)
first_copied (suc n) (suc m) (r ∷ rows) h = ap (λ (l : List Record). r ∷ l) (first_copied n m rows (omega arith))

pub load_copied : (rows copied : List Record) (m : ℕ) → m ≡ min (length rows) 128 → copied ≡ take m rows → copied ++ drop m (replicate 128 no_record) ≡ loaded_of rows
unfolding loaded_of
load_copied rows copied m h e = rw e (first_copied 128 m rows h)

-- ---- marking

marked_none : (to : Bool) (rows : List Record) → rows ≡ marked_as to rows []
unfolding marked_as
marked_none to [] = refl
marked_none to (r ∷ rows) = refl

marked_yes : (to : Bool) (rows : List Record) (ms : List Bool) (i : ℕ) → get_or ms i false ≡ true
    → set (marked_as to rows (take i ms)) i (mark_as to (row_of (marked_as to rows (take i ms)) i)) ≡ marked_as to rows (take (suc i) ms)
unfolding marked_as row_of
marked_yes to [] ms i h = refl
marked_yes to (r ∷ rows) [] i h = absurd (false_true h)
  where
    false_true : false ≡ true → ⊥
    false_true z = let n : ◌≡◌ {A = ℕ} 0 1 = ap (λ (b : Bool). cond b 1 0) z in omega arith
marked_yes to (r ∷ rows) (m ∷ ms) zero h = rw (h, ← marked_none to rows)
marked_yes to (r ∷ rows) (m ∷ ms) (suc i) h = ap (λ (l : List Record). cond m (mark_as to r) r ∷ l) (marked_yes to rows ms i h)

take_nothing : (i : ℕ) → take {A = Bool} i [] ≡ []
take_nothing zero = refl
take_nothing (suc i) = refl

marked_no : (to : Bool) (rows : List Record) (ms : List Bool) (i : ℕ) → get_or ms i false ≡ false → marked_as to rows (take i ms) ≡ marked_as to rows (take (suc i) ms)
unfolding marked_as
marked_no to [] ms i h = refl
marked_no to (r ∷ rows) [] i h = rw take_nothing
marked_no to (r ∷ rows) (m ∷ ms) zero h = rw (h, ← marked_none to rows)
marked_no to (r ∷ rows) (m ∷ ms) (suc i) h = ap (λ (l : List Record). cond m (mark_as to r) r ∷ l) (marked_no to rows ms i h)

take_all_marks : (ms : List Bool) → take (length ms) ms ≡ ms
take_all_marks [] = refl
take_all_marks (m ∷ ms) = ap (λ (l : List Bool). m ∷ l) (take_all_marks ms)

module _ (to : Bool) where
  pub length_marked : (rows : List Record) (ms : List Bool) → length (marked_as to rows ms) ≡ length rows
  unfolding marked_as
  length_marked [] ms = refl
  length_marked (r ∷ rows) [] = refl
  length_marked (r ∷ rows) (m ∷ ms) = ap suc (length_marked rows ms)

  module _ (rows : List Record) (ms : List Bool) where
    pub mark_none : rows ≡ marked_as to rows (take 0 ms)
    mark_none = marked_none to rows

    pub mark_yes : (i : ℕ) → get_or ms i false ≡ true → set (marked_as to rows (take i ms)) i (mark_as to (row_of (marked_as to rows (take i ms)) i)) ≡ marked_as to rows (take (i + 1) ms)
    mark_yes i h = rw (add-one, marked_yes to rows ms i h)

    pub mark_no : (i : ℕ) → get_or ms i false ≡ false → marked_as to rows (take i ms) ≡ marked_as to rows (take (i + 1) ms)
    mark_no i h = rw (add-one, marked_no to rows ms i h)

    pub mark_all_lem : (i : ℕ) → i ≡ 128 → length ms ≡ 128 → marked_as to rows (take i ms) ≡ marked_as to rows ms
    mark_all_lem i e n = ap (λ (k : ℕ). marked_as to rows (take k ms)) (e ∙ sym n) ∙ ap (marked_as to rows) (take_all_marks ms)
