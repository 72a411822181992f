use Rattle.std.proofs.Common.{◌≡◌, sym, ◌∙◌, arith, rules}
use Rattle.profile.proofs.CountLaws.{sum_none, sum_more}
use Rattle.console.proofs.profiles.rows_total.Goals as goal

pub loop-k-init : goal.loop-k-init
loop-k-init c = (search rules, sym (sum_none _))

pub loop-k-preserved : goal.loop-k-preserved
loop-k-preserved c =
    (search rules, rw (c.loop-k.invariant.1, c.from-total.ensures) (sum_more c.loop-k.k _))

pub returns : goal.returns
returns c =
    let e : c.loop-k.k ≡ 16 = omega arith in
    c.loop-k.invariant.1 ∙ rw e
