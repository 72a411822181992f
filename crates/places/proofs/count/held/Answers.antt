-- `count::held` meets its contract: the number counted is the sum over the places passed.
use Rattle.std.proofs.Common.{sym, ◌∙◌, ap, arith, ◌≡◌}
use Rattle.profile.specs.Counting.{one, sum}
use Rattle.profile.proofs.CountLaws.{sum_none}
use Rattle.places.specs.Held.{place_in, waits_at, held_of}
use Rattle.places.proofs.SumLaws.{sum_turn}
use Rattle.places.proofs.HeldLaws.{one_few, one_byte}
use Rattle.places.proofs.count.held.Goals as goal

pub loop-i-init : goal.loop-i-init
loop-i-init c = (omega arith, sym (sum_none _))

pub loop-i-preserved : goal.loop-i-preserved
unfolding place_in
loop-i-preserved c =
    let is : c.from-count.result ≡ one c.waits_at.result = c.from-count.ensures ∙ one_byte c.waits_at.result in
    (omega (arith, c.loop-i.invariant.0, is, one_few c.waits_at.result), sum_turn _ c.loop-i.i _ c.from-count.result c.loop-i.invariant.1 (is ∙ ap one c.waits_at.ensures))

pub returns : goal.returns
unfolding held_of
returns c =
    let all : c.loop-i.i ≡ 32 = omega (arith, c.loop-i.auto.i-end, c.loop-i-test.false) in
    c.loop-i.invariant.1 ∙ ap (λ n. sum n (λ i. one (waits_at (place_in c.args.list i) c.args.post))) all
