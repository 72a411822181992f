use Rattle.std.proofs.Common.{◌≡◌, false, length, rules}
use Rattle.message.specs.Addresses.{nobody, address_c}
use Rattle.message.specs.Groups.{places_c}
use Rattle.writing.proofs.PartLaws.{rest_more, rest_end, few_taken}
use Rattle.writing.proofs.WroteLaws.{left_some, left_none}
use Rattle.writing.proofs.group.write_places.Goals as goal

pub loop-a-preserved : goal.loop-a-preserved
loop-a-preserved c =
    let more = rest_more (address_c false) nobody _ c.loop-a.a-index c.loop-a-test.true in
    left_some _ _ (rw more at c.loop-a.invariant) c.write_address-next.ensures

pub returns : goal.returns
unfolding places_c
returns c =
    let n : length c.args.list ≡ 15 = search (rules, c.well_formed) in
    rw (← few_taken c.args.list _ _ 15 c.min.ensures n) (left_none (rw (rest_end (address_c false) _ c.loop-a.a-index c.loop-a-test.false) at c.loop-a.invariant))
