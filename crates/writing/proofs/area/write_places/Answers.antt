use Rattle.std.proofs.Common.{◌≡◌, length, rules}
use Rattle.codec.specs.Codec.{number}
use Rattle.message.specs.Areas.{area_c, area_places_c}
use Rattle.writing.proofs.PartLaws.{rest_more, rest_end, few_taken}
use Rattle.writing.proofs.WroteLaws.{left_some, left_none}
use Rattle.writing.proofs.area.write_places.Goals as goal

pub loop-a-preserved : goal.loop-a-preserved
unfolding number
loop-a-preserved c =
    let more = rest_more area_c 0 _ c.loop-a.a-index c.loop-a-test.true in
    left_some _ _ (rw more at c.loop-a.invariant) c.byte-next.ensures

pub returns : goal.returns
unfolding area_places_c
returns c =
    let n : length c.args.list ≡ 15 = search (rules, c.well_formed) in
    rw (← few_taken c.args.list _ _ 15 c.min.ensures n) (left_none (rw (rest_end area_c _ c.loop-a.a-index c.loop-a-test.false) at c.loop-a.invariant))
