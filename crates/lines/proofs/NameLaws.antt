-- Every message that is carried is listed under a name of its own row's type, and every name fits a text. Assumes nothing.
use Rattle.std.proofs.Common.{◌≡◌, ℕ, ◌<◌, ◌≤◌, Bool, true, not, ◌||◌, ltb, leb, length, sym, refl, ap, ◌∙◌, ltb-true, leb-true}
use Rattle.codec.specs.Codec.{both}
use Rattle.codec.proofs.Good.{both_left, both_right}
use Rattle.message.specs.Rows.{table, row_of}
use Rattle.message.specs.Messages.{is_carried}
use Rattle.message.specs.declared.Row.{Row}
use Rattle.message.proofs.TableLaws.{each_row}
use Rattle.lines.specs.Saying.{name_of}

-- a row that is carried has a name, of at most fifteen letters
abbrev is_named : ℕ → Row → Bool
is_named t r = not r.carried || both (ltb 0 (length (name_of t))) (leb (length (name_of t)) 15)

row_named : (t : ℕ) → is_named t (row_of t) ≡ true
unfolding row_of table name_of both
row_named t = each_row is_named table t refl refl

name_by : (t : ℕ) (b : Bool) → b ≡ true → (not b || both (ltb 0 (length (name_of t))) (leb (length (name_of t)) 15)) ≡ true
    → (0 < length (name_of t)) × (length (name_of t) ≤ 15)
name_by t b e h =
    let w : both (ltb 0 (length (name_of t))) (leb (length (name_of t)) 15) ≡ true = ap (λ (c : Bool). not c || both (ltb 0 (length (name_of t))) (leb (length (name_of t)) 15)) (sym e) ∙ h in
    (ltb-true _ _ (both_left _ _ w), leb-true _ _ (both_right (ltb 0 (length (name_of t))) _ w))

pub carried_named : (t : ℕ) → is_carried t ≡ true → (0 < length (name_of t)) × (length (name_of t) ≤ 15)
unfolding is_carried
carried_named t e = name_by t (row_of t).carried e (row_named t)
