use mathlib.Core.Path.{sym, ap, ◌∙◌}
use mathlib.Core.Bool.{not}
use Rattle.validity.proofs.RowLaws.{option_given, option_not}
use Rattle.validity.proofs.body.option_ok.Goals as goal

pub returns-then-not-given_at : goal.returns-then-not-given_at
returns-then-not-given_at c = ap not c.if-not-given_at.true ∙ sym (option_not _ _ _ _ _ (sym c.given_at.ensures ∙ c.if-not-given_at.true))

pub returns-else-not-given_at : goal.returns-else-not-given_at
returns-else-not-given_at c =
    c.part_ok.ensures ∙ sym (option_given _ _ _ _ _ (sym c.given_at.ensures ∙ c.if-not-given_at.false))
