use Rattle.std.proofs.Common.{sym, ◌∙◌}
use Rattle.writing.proofs.LayLaws.{refusing}
use Rattle.writing.specs.Writing.{write_valid}
use Rattle.writing.proofs.write_valid.Goals as goal

pub write_in-requires : goal.write_in-requires
write_in-requires c = sym c.valid.ensures ∙ c.if-not-valid.false

pub returns-then-not-valid : goal.returns-then-not-valid
unfolding write_valid
returns-then-not-valid c = rw (sym c.valid.ensures ∙ c.if-not-valid.true) (refusing _ _ _ c.refuse.ensures)

pub returns : goal.returns
unfolding write_valid
returns c = rw (sym c.valid.ensures ∙ c.if-not-valid.false) c.write_in.ensures
