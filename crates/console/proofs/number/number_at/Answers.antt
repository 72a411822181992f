use Rattle.std.proofs.Common.{◌≡◌, arith, rules}
use Rattle.layouts.proofs.ByteLaws.{number_none, number_more, more_lt, fewer_lt}
use Rattle.console.proofs.number.number_at.Goals as goal

pub loop-k-init : goal.loop-k-init
loop-k-init c = (number_none _, omega arith)

pub overflow_mul-v : goal.overflow_mul-v
overflow_mul-v c = omega (arith, fewer_lt c.loop-k.k c.loop-k.v (search rules) c.loop-k.invariant.1)

pub overflow_add-v : goal.overflow_add-v
overflow_add-v c = omega (arith, fewer_lt c.loop-k.k c.loop-k.v (search rules) c.loop-k.invariant.1)

pub loop-k-preserved : goal.loop-k-preserved
loop-k-preserved c =
    (number_more c.args.l.now c.args.at _ _ _ _ c.loop-k.invariant.0 c.byte_at.ensures c.from.ensures, more_lt _ _ _ c.loop-k.invariant.1 (omega arith))

pub returns : goal.returns
returns c =
    let e : c.loop-k.k ≡ c.args.count = omega arith in
    rw e at c.loop-k.invariant
