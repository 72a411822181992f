-- No mark, one mark more or none there, all of them.
use Rattle.std.proofs.Common.{◌≡◌, ◌∙◌, rules, ap, arith}
use Rattle.records.specs.declared.Record.{Record}
use mathlib.Core.List.{List}
use lib.ListN.{set, length}
use Rattle.records.specs.Records.{row_of}
use Rattle.host.specs.Lending.{mark_as}
use Rattle.host.proofs.LendLaws.{mark_none, mark_yes, mark_no, mark_all_lem}
use Rattle.host.proofs.set_marks.Goals as goal
use Rattle.host.proofs.set_marks.Goals.{then-marks-i, else-marks-i}

pub loop-i-init : goal.loop-i-init
loop-i-init c = mark_none c.args.marks.mark c.args.records.now c.args.marks.at

pub loop-i-preserved : goal.loop-i-preserved
loop-i-preserved c =
    elim c.if-marks-i.branch [
      | then-marks-i w ↦ w.records-is ∙ w.set_mark.ensures
          ∙ ap (λ (rows : List Record). set rows c.loop-i.i (mark_as c.args.marks.mark (row_of rows c.loop-i.i))) c.loop-i.invariant
          ∙ mark_yes c.args.marks.mark c.args.records.now c.args.marks.at c.loop-i.i w.if-marks-i.true
      | else-marks-i w ↦ w.records-is ∙ c.loop-i.invariant
          ∙ mark_no c.args.marks.mark c.args.records.now c.args.marks.at c.loop-i.i w.if-marks-i.false
    ]

pub returns : goal.returns
returns c =
    let n : length c.args.marks.at ≡ 128 = search rules in
    c.loop-i.invariant
    ∙ mark_all_lem c.args.marks.mark c.args.records.now c.args.marks.at c.loop-i.i (omega arith) n
