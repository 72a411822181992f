use Rattle.lines.specs.Saying.{said_of}
use Rattle.lines.proofs.said.Goals as goal

pub returns-in-Some : goal.returns-in-Some
unfolding said_of
returns-in-Some c = rw (← c.in-Some.ensures.is) c.said_after.ensures

pub returns-in-None : goal.returns-in-None
unfolding said_of
returns-in-None c = rw (← c.in-None.ensures.is) c.refused.ensures
