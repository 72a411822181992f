use Rattle.std.proofs.Common.{refl, arith}
use Rattle.bits.proofs.FieldLaws.{bit_lt, field_below}
use Rattle.bits.specs.Fields.{bit_at}
use Rattle.console.proofs.LayLaws.{double_is}
use Rattle.layouts.proofs.RunLaws.{laying_start, laying_end, stored_most, laying_turn}
use Rattle.console.proofs.group.lay_addresses.Goals as goal

pub returns-then-buf-lt8 : goal.returns-then-buf-lt8
returns-then-buf-lt8 c = c.lay_alone.ensures

pub overflow_mul-held : goal.overflow_mul-held
overflow_mul-held c =
    omega (arith, c.window-held.ensures, field_below 57 c.args.buf.now c.args.at 57 (omega arith))

pub loop-p-init : goal.loop-p-init
loop-p-init c =
    laying_start (bit_at c.args.buf.now) (bit_lt c.args.buf.now) _ _ c.args.count c.args.at c.args.area.now c.args.place _ refl refl (double_is _ _ _ c.window-held.ensures)

pub lay_kind-requires : goal.lay_kind-requires
lay_kind-requires c =
    omega (arith, c.loop-p.invariant.here, c.loop-p.invariant.room, c.requires, c.loop-p-test.true)

pub overflow_add-next : goal.overflow_add-next
overflow_add-next c =
    omega (arith, stored_most _ _ _ _ _ c.in_ok-next.ensures, c.loop-p.invariant.low, c.loop-p.invariant.few, c.requires)

pub returns-then-p-end : goal.returns-then-p-end
returns-then-p-end c =
    let so = laying_turn (bit_at c.args.buf.now) (bit_lt c.args.buf.now) _ _ c.args.count c.args.at c.args.area.now c.args.place _ _ _ _ c.loop-p.invariant c.loop-p-test.true _ _ c.in_ok-next.ensures 0 (λ i. absurd (omega (arith, i, c.if-p-end.true))) in
    laying_end (bit_at c.args.buf.now) (bit_lt c.args.buf.now) _ _ c.args.count c.args.at c.args.area.now c.args.place _ _ _ _ so c.if-p-end.true _ refl

pub ahead-held-requires : goal.ahead-held-requires
ahead-held-requires c = c.if-buf-lt8.false

pub loop-p-preserved : goal.loop-p-preserved
loop-p-preserved c =
    laying_turn (bit_at c.args.buf.now) (bit_lt c.args.buf.now) _ _ c.args.count c.args.at c.args.area.now c.args.place _ _ _ _ c.loop-p.invariant c.loop-p-test.true _ _ c.in_ok-next.ensures _ (λ i. c.ahead-held.ensures)
