use Rattle.std.proofs.Common.{eq-eqb, ne_eqb}
use Rattle.lines.specs.Saying.{stop_of}
use Rattle.lines.proofs.stopped.Goals as goal

pub returns-then-stop-eq4 : goal.returns-then-stop-eq4
unfolding stop_of
returns-then-stop-eq4 c = rw (eq-eqb _ _ c.if-stop-eq4.true) c.broke.ensures

pub returns : goal.returns
unfolding stop_of
returns c = rw (ne_eqb _ _ c.if-stop-eq4.false) c.refused.ensures
