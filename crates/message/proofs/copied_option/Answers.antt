use mathlib.Core.Path.{sym, ◌∙◌}
use Rattle.message.proofs.RowLaws.{copy_absent}
use Rattle.message.specs.Rows.{copy_of, copy_option}
use Rattle.message.proofs.copied_option.Goals as goal

pub returns-then-given_at : goal.returns-then-given_at
unfolding copy_option copy_of
returns-then-given_at c = rw (c.with_given.ensures, c.copied.ensures, sym c.given_at.ensures ∙ c.if-given_at.true)

pub returns-else-given_at : goal.returns-else-given_at
returns-else-given_at c = copy_absent _ _ _ _ (sym c.given_at.ensures ∙ c.if-given_at.false)
