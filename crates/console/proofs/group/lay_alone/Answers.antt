use Rattle.std.proofs.Common.{◌+◌, refl, arith}
use Rattle.bits.proofs.FieldLaws.{bit_lt, field_below}
use Rattle.bits.specs.Fields.{bit_at}
use Rattle.console.proofs.LayLaws.{double_is}
use Rattle.layouts.proofs.RunLaws.{laying_start, laying_end, stored_most, laying_turn}
use Rattle.console.proofs.group.lay_alone.Goals as goal

pub overflow_add-end : goal.overflow_add-end
overflow_add-end c = omega (arith, c.requires)

pub bounds-area-end : goal.bounds-area-end
bounds-area-end c = omega (arith, c.requires, c.if-count-eq1.true)

pub overflow_mul-window : goal.overflow_mul-window
overflow_mul-window c = omega (arith, c.window.ensures, field_below 57 c.args.buf.now c.args.at 57 (omega arith))

pub lay_kind-requires : goal.lay_kind-requires
lay_kind-requires c = omega (arith, c.requires, c.if-count-eq1.true)

pub bounds-area-end-then-count-eq1 : goal.bounds-area-end-then-count-eq1
bounds-area-end-then-count-eq1 c = omega (arith, c.requires, c.if-count-eq1.true)

pub overflow_add-result : goal.overflow_add-result
overflow_add-result c =
    omega (arith, stored_most _ _ _ _ _ c.in_ok-step.ensures, c.requires)

pub returns-then-count-eq1 : goal.returns-then-count-eq1
returns-then-count-eq1 c =
    let s₀ = laying_start (bit_at c.args.buf.now) (bit_lt c.args.buf.now) _ (c.args.place + 7) c.args.count c.args.at c.args.area.now c.args.place _ (omega (arith, c.if-count-eq1.true)) refl (double_is c.args.buf.now c.args.at _ c.window.ensures) in
    let so = laying_turn (bit_at c.args.buf.now) (bit_lt c.args.buf.now) _ (c.args.place + 7) c.args.count c.args.at c.args.area.now c.args.place _ _ _ _ s₀ (omega arith) _ _ c.in_ok-step.ensures 0 (λ i. absurd (omega (arith, i))) in
    laying_end (bit_at c.args.buf.now) (bit_lt c.args.buf.now) _ (c.args.place + 7) c.args.count c.args.at c.args.area.now c.args.place _ _ _ _ so (omega arith) _ refl
