use Rattle.std.proofs.Common.{refl, arith}
use Rattle.layouts.proofs.ByteLaws.{put_turn, put_end, put_same}
use Rattle.console.proofs.number.put_number.Goals as goal

pub loop-k-init : goal.loop-k-init
loop-k-init c = refl

pub loop-k-preserved : goal.loop-k-preserved
loop-k-preserved c =
    put_turn _ _ _ _ _ _ c.loop-k.k _ _ _ c.loop-k.invariant (omega arith) refl c.put_byte.ensures

pub shape_of-out : goal.shape_of-out
shape_of-out c = put_same _ _ _ _ _ _ _ c.loop-k.invariant

pub returns : goal.returns
returns c = put_end _ _ _ _ _ _ _ c.loop-k.invariant (omega arith)
