use Rattle.std.proofs.Common.{◌≡◌, min, length, rules}
use Rattle.writing.proofs.RowLaws.{each_turn, each_end, first_taken}
use Rattle.writing.proofs.body.write_each.Goals as goal

pub loop-option-preserved : goal.loop-option-preserved
loop-option-preserved c =
    each_turn _ _ _ _ _ _ _ c.loop-option-test.true c.loop-option-test.true c.copied_option-made.ensures c.loop-option.invariant c.write_option-next.ensures

pub returns : goal.returns
returns c =
    let n : length c.args.optional ≡ 7 = search (rules, c.well_formed) in
    let e : c.min.result ≡ min c.args.count 7 = rw c.from.ensures at c.min.ensures in
    rw (first_taken c.args.optional _ _ 7 e n) (each_end _ _ _ _ _ _ c.loop-option-test.false c.loop-option.invariant)
