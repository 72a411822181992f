use Rattle.console.proofs.LayLaws.{mark_there}
use Rattle.layouts.proofs.PartLaws.{mark_at}
use Rattle.console.proofs.lay.put_mark.Goals as goal

pub returns-then-i-eq0 : goal.returns-then-i-eq0
unfolding mark_at
returns-then-i-eq0 c = rw c.if-i-eq0.true

pub returns : goal.returns
returns c = mark_there c.args.area.now c.args.i 1 c.if-i-eq0.false
