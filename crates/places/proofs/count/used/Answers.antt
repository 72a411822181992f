-- `count::used` meets its contract: the number counted is the sum over the places passed.
use Rattle.std.proofs.Common.{sym, ◌∙◌, ap, arith, ◌≡◌, get_or}
use Rattle.profile.specs.Counting.{one, sum}
use Rattle.profile.proofs.CountLaws.{sum_none}
use Rattle.places.specs.Held.{no_place, place_in, used_of}
use Rattle.places.proofs.SumLaws.{sum_turn}
use Rattle.places.proofs.HeldLaws.{one_few, one_byte}
use Rattle.places.proofs.count.used.Goals as goal

pub loop-at-init : goal.loop-at-init
loop-at-init c = (omega arith, sym (sum_none _))

pub loop-at-preserved : goal.loop-at-preserved
unfolding place_in
loop-at-preserved c =
    let is : c.from-count.result ≡ one (get_or c.args.list c.loop-at.at no_place).used = c.from-count.ensures ∙ one_byte _ in
    (omega (arith, c.loop-at.invariant.0, is, one_few (get_or c.args.list c.loop-at.at no_place).used), sum_turn _ c.loop-at.at _ c.from-count.result c.loop-at.invariant.1 is)

pub returns : goal.returns
unfolding used_of
returns c =
    let all : c.loop-at.at ≡ 32 = omega (arith, c.loop-at.auto.at-end, c.loop-at-test.false) in
    c.loop-at.invariant.1 ∙ ap (λ n. sum n (λ i. one (place_in c.args.list i).used)) all
