use Rattle.std.proofs.Common.{take, arith, length-take-le}
use Rattle.std.proofs.lemmas.Grind.{common_steps}
use Rattle.console.proofs.LayLaws.{front_put}
use Rattle.console.proofs.bytes.copy_bytes.Goals as goal

pub returns : goal.returns
returns c =
    let count = c.args.count in
    let from = c.args.from.now in
    (front_put c.args.out.now _ (take count from) count (omega (arith, c.requires.0)) c.copy_from_slice.ensures.after (length-take-le count from (omega (arith, c.requires.1))), grind (arith, common_steps))
