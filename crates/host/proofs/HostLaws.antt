-- What the contract of `call` says of what is lent: a refusal leaves all of it, marks change at the records that the step says and at no other,
-- and the outcome is decided. Assumes nothing.
use Prim.Native.Nat.{ℕ, zero, suc, ◌<◌}
use mathlib.Core.Path.{◌≡◌, refl, sym, ap, ◌∙◌}
use mathlib.Core.Bool.{Bool, false, cond}
use mathlib.Core.List.{List, [], ◌∷◌}
use native.Mathlib.Omega.{arith}
use lib.ListN.{length, get_or, take, replicate}
use Rattle.codec.specs.declared.Stop.{Stop}
use Rattle.records.specs.Marking.{unmarked, nobody_marked, no_marks}
use Rattle.records.specs.Records.{row_of}
use Rattle.records.specs.declared.Marks.{Marks}
use Rattle.records.specs.declared.Record.{Record}
use Rattle.sending.specs.Sending.{no_laid}
use Rattle.desk.specs.declared.Answer.TheVariants as answer
use Rattle.desk.specs.declared.Desk.{Desk}
use Rattle.desk.specs.declared.Event.{Event}
use Rattle.desk.proofs.Refusals.{refused_keeps}
use Rattle.host.specs.Lending.{first_of, loaded_of, mark_as, marked_as, marked_by, step_on, Called}
use Rattle.host.specs.declared.Told.{Told}

-- ---- marks

-- record i, once the marks are as they are said
pub marked_row : (to : Bool) (rows : List Record) (ms : List Bool) (i : ℕ) → i < length rows → row_of (marked_as to rows ms) i ≡ cond (get_or ms i false) (mark_as to (row_of rows i)) (row_of rows i)
unfolding marked_as row_of
marked_row to [] ms i h = absurd (omega arith)
marked_row to (r ∷ rows) [] i h = refl
marked_row to (r ∷ rows) (m ∷ ms) zero h = refl
marked_row to (r ∷ rows) (m ∷ ms) (suc i) h = marked_row to rows ms i (omega arith)

nobody_marked_lem : (to : Bool) (rows : List Record) (n : ℕ) → marked_as to rows (replicate n false) ≡ rows
unfolding marked_as
nobody_marked_lem to [] n = refl
nobody_marked_lem to (r ∷ rows) zero = refl
nobody_marked_lem to (r ∷ rows) (suc n) = ap (λ (l : List Record). r ∷ l) (nobody_marked_lem to rows n)

unmarked_stay : (rows : List Record) → marked_by rows no_marks ≡ rows
unfolding no_marks nobody_marked unmarked
unmarked_stay rows = nobody_marked_lem false rows 128

-- ---- loading

first_lent : (n : ℕ) (rows : List Record) → take (length rows) (first_of n rows) ≡ take n rows
unfolding first_of
first_lent zero [] = refl
first_lent zero (r ∷ rows) = refl
first_lent (suc n) [] = refl
first_lent (suc n) (r ∷ rows) = ap (λ (l : List Record). r ∷ l) (first_lent n rows)

-- what the step looks at is what is lent, up to 128
pub loaded_lent : (rows : List Record) → take (length rows) (loaded_of rows) ≡ take 128 rows
unfolding loaded_of
loaded_lent rows = first_lent 128 rows

-- ---- the call

module _ (d : Desk) (rows : List Record) (l area : List ℕ) (e : Event) where
  -- desk, records and output area as at entry; no message is laid
  pub record AsLent (t : Told) (d₁ : Desk) (rows₁ : List Record) (area₁ : List ℕ) : Type 0 where
    pub desk : d₁ ≡ d
    pub records : rows₁ ≡ rows
    pub output : area₁ ≡ area
    pub laid : t.laid ≡ no_laid

  module _ (t : Told) (d₁ : Desk) (rows₁ : List Record) (area₁ : List ℕ) (c : Called d rows l area e t d₁ rows₁ area₁) where
    -- a refusal leaves all that is lent: the records past 128 too
    pub call_refused_keeps : (s : Stop) → t.answer ≡ answer.Refused s → AsLent t d₁ rows₁ area₁
    call_refused_keeps s h =
        let k = refused_keeps d (loaded_of rows) (length rows) l area e s (sym (ap (λ (x : Told). x.answer) c.told) ∙ h) in
        record {
          desk = c.desk ∙ k.desk;
          records = c.records ∙ ap (λ (ms : Marks). marked_by rows ms) k.marks ∙ unmarked_stay rows;
          output = c.output ∙ k.area;
          laid = ap (λ (x : Told). x.laid) c.told ∙ k.laid;
        }

    -- record i is the one at entry, with its mark as the step says exactly if the step says i; past 128 it says none
    pub marked_at : (i : ℕ) → i < length rows
        → row_of rows₁ i ≡ cond (get_or (step_on d rows l area e).marks.at i false) (mark_as (step_on d rows l area e).marks.mark (row_of rows i)) (row_of rows i)
    marked_at i h = ap (λ (rs : List Record). row_of rs i) c.records ∙ marked_row (step_on d rows l area e).marks.mark rows (step_on d rows l area e).marks.at i h

    -- any other outcome that the contract allows is the same
    pub decides_call : (t' : Told) (d' : Desk) (rows' : List Record) (area' : List ℕ) → Called d rows l area e t' d' rows' area' → (t ≡ t') × ((d₁ ≡ d') × ((rows₁ ≡ rows') × (area₁ ≡ area')))
    decides_call t' d' rows' area' c' = (c.told ∙ sym c'.told, (c.desk ∙ sym c'.desk, (c.records ∙ sym c'.records, c.output ∙ sym c'.output)))
