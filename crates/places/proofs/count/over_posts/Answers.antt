-- `count::over_posts` meets its contract: the total is over the posts passed, each at most 255.
use Rattle.std.proofs.Common.{◌∙◌, sym, arith}
use Rattle.profile.proofs.CountLaws.{sum_none}
use Rattle.places.proofs.SumLaws.{sum_turn}
use Rattle.places.proofs.count.over_posts.Goals as goal

pub loop-q-init : goal.loop-q-init
loop-q-init g c = (omega arith, λ amount h. sym (sum_none amount))

pub loop-q-preserved : goal.loop-q-preserved
loop-q-preserved g c =
    (omega arith, λ amount h. sum_turn amount c.loop-q.q _ _ (c.loop-q.invariant.1 amount h) (c.from-total.ensures ∙ h c.loop-q.q c.part.result c.loop-q-test.true c.part.ensures))
