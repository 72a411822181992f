use mathlib.Core.Path.{refl}
use Rattle.desk.specs.Steps.{ended_step}
use Rattle.desk.proofs.ending.ended.Goals as goal

pub returns : goal.returns
unfolding ended_step
returns c = let k = rw c.no_laid.ensures at c.send-laid.ensures in rw (c.no_marks.ensures, c.clear.ensures, k.0) (refl, k.1)
