use mathlib.Core.Path.{◌≡◌, ap, ◌∙◌}
use native.Mathlib.Omega.{arith}
use lib.ListN.{length, take, length-take}
use borrow.Author.Rules.{rules}
use Rattle.records.proofs.IdentityLaws.{count_le}
use Rattle.records.proofs.JudgeLaws.{passed_none, mask_room, passed_more, passed_all}
use Rattle.records.proofs.OutcomeLaws.{out_none, acc_none, out_yes, acc_yes, out_other, acc_no}
use Rattle.records.proofs.RecordLaws.{found_in}
use Rattle.records.specs.Records.{row_of}
use Rattle.records.proofs.judged_of.Goals.{in-None, in-Some, in-Some-2}
use Rattle.records.proofs.judged_of.Goals as goal

pub loop-i-init : goal.loop-i-init
loop-i-init c = record {
  all = c.count_of-n.ensures;
  few = omega (arith, count_le c.args.air c.args.group, c.count_of-n.ensures);
  passed = passed_none _ _ _ _ _;
}

pub overflow_add-masks : goal.overflow_add-masks
overflow_add-masks c =
    let v = c.loop-i.invariant in
    record { fits = mask_room v.passed v.all c.loop-i-test.true c.identity_at-id.ensures c.bit_of-bit.ensures (out_none _ _ _ c.record_of.ensures _ c.in-None.is _) }

pub offset_bounds-lent-k : goal.offset_bounds-lent-k
offset_bounds-lent-k c =
    let n : length c.args.rows ≡ 128 = c.well_formed.1.1.0.1.0.1 in
    let e : c.lent-lent.result.now ≡ take c.args.count c.args.rows = c.lent-lent.ensures in
    record { fits = omega (arith, found_in _ _ _ _ c.record_of.ensures c.in-Some.is, ap length e, length-take c.args.count c.args.rows) }

pub bounds-lent-k : goal.bounds-lent-k
bounds-lent-k c = found_in _ _ _ _ c.record_of.ensures c.in-Some.is

pub overflow_add-masks-in-Some : goal.overflow_add-masks-in-Some
unfolding row_of
overflow_add-masks-in-Some c =
    let v = c.loop-i.invariant in
    record { fits = mask_room v.passed v.all c.loop-i-test.true c.identity_at-id.ensures c.bit_of-bit.ensures (out_yes _ _ _ c.record_of.ensures _ _ c.in-Some.is c.if-lent-k.true _) }

pub bounds-at-k : goal.bounds-at-k
bounds-at-k c =
    let n : length c.args.rows ≡ 128 = c.well_formed.1.1.0.1.0.1 in
    let e : c.lent-lent.result.now ≡ take c.args.count c.args.rows = c.lent-lent.ensures in
    omega (arith, found_in _ _ _ _ c.record_of.ensures c.in-Some.is, ap length e, length-take c.args.count c.args.rows)

pub overflow_add-masks-in-Some-2 : goal.overflow_add-masks-in-Some-2
unfolding row_of
overflow_add-masks-in-Some-2 c =
    let v = c.loop-i.invariant in
    record { fits = mask_room v.passed v.all c.loop-i-test.true c.identity_at-id.ensures c.bit_of-bit.ensures (c.other_of-other.ensures ∙ out_other _ _ _ c.record_of.ensures _ _ c.in-Some.is c.if-lent-k.false _) }

pub loop-i-preserved : goal.loop-i-preserved
unfolding row_of
loop-i-preserved c =
    let v = c.loop-i.invariant in
    record {
      all = v.all;
      few = v.few;
      passed = elim c.match-record_of.branch [
        | in-None w ↦ passed_more v.passed v.all c.loop-i-test.true c.identity_at-id.ensures c.bit_of-bit.ensures (out_none _ _ _ c.record_of.ensures _ w.in-None.is _) (acc_none _ _ _ c.record_of.ensures _ w.in-None.is) w.masks-is w.at-is
        | in-Some w ↦ passed_more v.passed v.all c.loop-i-test.true c.identity_at-id.ensures c.bit_of-bit.ensures (out_yes _ _ _ c.record_of.ensures _ _ w.in-Some.is w.if-lent-k.true _) (acc_yes _ _ _ c.record_of.ensures _ _ w.in-Some.is w.if-lent-k.true) w.masks-is w.at-is
        | in-Some-2 w ↦ passed_more v.passed v.all c.loop-i-test.true c.identity_at-id.ensures c.bit_of-bit.ensures (c.other_of-other.ensures ∙ out_other _ _ _ c.record_of.ensures _ _ w.in-Some.is w.if-lent-k.false _) (acc_no _ _ _ c.record_of.ensures _ _ w.in-Some.is w.if-lent-k.false) w.masks-is w.at-is
      ];
    }

pub returns : goal.returns
returns c = rw (← c.lent-lent.ensures) (passed_all c.loop-i.invariant.passed c.loop-i.auto.i-end (search rules) c.loop-i.invariant.all _ c.sorted_by.ensures)
