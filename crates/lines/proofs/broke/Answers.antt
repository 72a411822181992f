use Rattle.lines.specs.Saying.{broke_of}
use Rattle.lines.proofs.broke.Goals as goal

pub returns : goal.returns
unfolding broke_of
returns c = c.numbered.ensures
