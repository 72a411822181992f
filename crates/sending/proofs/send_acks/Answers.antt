use Rattle.std.proofs.Common.{◌≡◌, arith}
use Rattle.sending.proofs.SendLaws.{acks_none, acks_more, acks_all}
use Rattle.sending.proofs.send_acks.Goals as goal

pub loop-class-init : goal.loop-class-init
loop-class-init c = acks_none _ _ _ _ _ _ c.no_laid-laid.ensures

pub loop-class-preserved : goal.loop-class-preserved
loop-class-preserved c = acks_more _ _ _ _ _ _ _ _ _ _ c.loop-class.invariant c.send_ack-laid.ensures

pub returns : goal.returns
returns c =
    let e : c.loop-class.class ≡ 3 = omega arith in
    acks_all _ _ _ _ _ _ _ _ e c.loop-class.invariant
