use Rattle.std.proofs.Common.{sym, ◌∙◌}
use Rattle.writing.proofs.LayLaws.{refusing}
use Rattle.writing.specs.Writing.{write_of}
use Rattle.writing.proofs.write_at.Goals as goal

pub returns-then-not-profile_ok : goal.returns-then-not-profile_ok
unfolding write_of
returns-then-not-profile_ok c = rw (sym c.profile_ok.ensures ∙ c.if-not-profile_ok.true) (refusing _ _ _ c.refuse.ensures)

pub returns : goal.returns
unfolding write_of
returns c = rw (sym c.profile_ok.ensures ∙ c.if-not-profile_ok.false) c.write_valid.ensures
