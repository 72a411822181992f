use Rattle.std.proofs.Common.{sym, ◌∙◌}
use Rattle.writing.proofs.RowLaws.{option_there, option_none}
use Rattle.writing.proofs.body.write_option.Goals as goal

pub returns-then-given_at : goal.returns-then-given_at
returns-then-given_at c =
    option_there _ _ _ _ _ (sym c.given_at.ensures ∙ c.if-given_at.true) c.bit-p.ensures c.write_part.ensures

pub returns : goal.returns
returns c = option_none _ _ _ _ _ (sym c.given_at.ensures ∙ c.if-given_at.false) c.bit.ensures
