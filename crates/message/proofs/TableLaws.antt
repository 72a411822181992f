-- A rule that every row of a table keeps is kept by the row of every type: the table is tested once, by computing. Assumes nothing.
use Prim.Native.Nat.{ℕ}
use mathlib.Core.Path.{◌≡◌, refl, ap, ◌∙◌}
use mathlib.Core.Bool.{Bool, true, false, cond}
use mathlib.Core.List.{List, [], ◌∷◌}
use lib.Dec.{eqb}
use borrow.Author.Tests.{eqb-true}
use Rattle.codec.specs.Codec.{both}
use Rattle.codec.proofs.Good.{both_left, both_right}
use Rattle.message.specs.Rows.{no_row, row_in}
use Rattle.message.specs.declared.Row.{Row}

module _ (rule : ℕ → Row → Bool) where
  abbrev pub all_rows : List (ℕ × Row) → Bool
  all_rows [] = true
  all_rows (x ∷ rest) = both (rule x.0 x.1) (all_rows rest)

  pub each_row : (rows : List (ℕ × Row)) (t : ℕ) → all_rows rows ≡ true → rule t no_row ≡ true → rule t (row_in rows t) ≡ true
  unfolding row_in
  each_row [] t e none = none
  each_row (x ∷ rest) t e none = go (eqb t x.0) (λ h. eqb-true t x.0 h) (each_row rest t (both_right (rule x.0 x.1) _ e) none)
    where
      go : (b : Bool) → (b ≡ true → t ≡ x.0) → rule t (row_in rest t) ≡ true → rule t (cond b x.1 (row_in rest t)) ≡ true
      go true k h = ap (λ (u : ℕ). rule u x.1) (k refl) ∙ both_left _ _ e
      go false k h = h
