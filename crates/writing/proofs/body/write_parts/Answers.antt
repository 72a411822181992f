use Rattle.std.proofs.Common.{◌≡◌, min, length, rules}
use Rattle.writing.proofs.RowLaws.{parts_turn, parts_end, first_taken}
use Rattle.writing.proofs.body.write_parts.Goals as goal

pub loop-slot-preserved : goal.loop-slot-preserved
loop-slot-preserved c =
    parts_turn _ _ _ _ _ _ _ _ c.loop-slot-test.true c.loop-slot-test.true c.copied-made.ensures c.loop-slot.invariant c.write_part-next.ensures

pub returns : goal.returns
returns c =
    let n : length c.args.row.parts ≡ 6 = search (rules, c.well_formed) in
    let e : c.min.result ≡ min c.args.row.count 6 = rw c.from.ensures at c.min.ensures in
    rw (first_taken c.args.row.parts _ _ 6 e n) (parts_end _ _ _ _ _ _ _ c.write_options.ensures c.loop-slot-test.false c.loop-slot.invariant)
