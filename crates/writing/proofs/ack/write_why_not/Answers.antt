use Rattle.std.proofs.Common.{rules, eq-eqb, ne_eqb}
use Rattle.writing.proofs.WroteLaws.{wrote_none}
use Rattle.writing.proofs.ack.write_why_not.Goals as goal

pub returns-then-res-eq1 : goal.returns-then-res-eq1
returns-then-res-eq1 c = rw (eq-eqb _ _ c.if-res-eq1.true) (wrote_none _ _ (search rules))

pub returns : goal.returns
returns c = rw (ne_eqb _ _ c.if-res-eq1.false) c.word.ensures
