use Rattle.std.proofs.Common.{arith}
use Rattle.console.proofs.LayLaws.{zeros_put}
use Rattle.console.proofs.bytes.zero_run.Goals as goal

pub returns : goal.returns
returns c =
    zeros_put c.args.out.now _ c.args.from c.args.end (omega arith) (omega arith) (c.fill.ensures.after (λ y e. e))
