use Rattle.std.proofs.Common.{◌+◌, arith}
use Rattle.console.proofs.LayLaws.{triple_is}
use Rattle.console.proofs.number.triple.Goals as goal

pub returns : goal.returns
returns c =
    (triple_is c.args.l.now c.args.at _ _ _ c.from.ensures c.from-2.ensures c.from-3.ensures, omega (arith, c.type_inv.l c.args.at, c.type_inv.l (c.args.at + 1), c.type_inv.l (c.args.at + 2)))
