use Rattle.std.proofs.Common.{refl, arith, rules}
use Rattle.layouts.proofs.ByteLaws.{put_turn, put_end}
use Rattle.console.proofs.number.put_run.Goals as goal

pub loop-k-init : goal.loop-k-init
loop-k-init c = (refl, refl)

pub bounds-out-at : goal.bounds-out-at
bounds-out-at c = omega (arith, c.loop-k.invariant, c.requires)

pub loop-k-preserved : goal.loop-k-preserved
loop-k-preserved c =
    (search rules, put_turn _ _ _ _ _ _ c.loop-k.k _ _ _ c.loop-k.invariant.1 (omega arith) refl refl)

pub shape_of-out : goal.shape_of-out
shape_of-out c = c.loop-k.invariant.0

pub returns : goal.returns
returns c = put_end _ _ _ _ _ _ _ c.loop-k.invariant.1 (omega arith)
