use Rattle.std.proofs.Common.{arith, length-set}
use Rattle.console.proofs.part.put_mask.Goals as goal

pub put_run-requires : goal.put_run-requires
put_run-requires c = omega (arith, length-set c.args.area.now 107 c.args.present)

pub returns : goal.returns
returns c = c.put_run.ensures
