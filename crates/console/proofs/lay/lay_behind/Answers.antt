use Rattle.std.proofs.Common.{sym, ◌∙◌, arith, rules}
use Rattle.bits.specs.Fields.{bit_at}
use Rattle.console.proofs.LayLaws.{one_bit}
use Rattle.layouts.proofs.RowReads.{options_begin, option_next, option_skip, options_done}
use Rattle.layouts.specs.Profiles.{air_from}
use Rattle.console.proofs.lay.lay_behind.Goals as goal

pub loop-i-init : goal.loop-i-init
loop-i-init c =
    (search rules, λ v h. options_begin (air_from c.args.profile.now) (bit_at c.args.buf.now) v _ _ c.args.at _ h)

pub overflow_add-next : goal.overflow_add-next
overflow_add-next c = omega (arith, c.if-next-bits.false, c.requires)

pub loop-i-preserved-then-bit-eq0 : goal.loop-i-preserved-then-bit-eq0
loop-i-preserved-then-bit-eq0 c =
    (c.loop-i.invariant.0, (λ v h. option_skip (air_from c.args.profile.now) (bit_at c.args.buf.now) v _ _ c.args.at c.loop-i.i _ _ _ (c.loop-i.invariant.1 v h) (search rules) (omega (arith, c.loop-i.invariant.0, c.if-i-ge7.false)) (sym c.bit.ensures ∙ c.if-bit-eq0.true)))

pub overflow_add-next-in-loop-i : goal.overflow_add-next-in-loop-i
overflow_add-next-in-loop-i c = omega (arith, c.if-next-bits.false, c.requires)

pub lay_part-requires : goal.lay_part-requires
lay_part-requires c = omega (arith, c.if-next-bits.false, c.requires)

pub put_mark-requires : goal.put_mark-requires
put_mark-requires c = omega (arith, c.if-i-ge7.false)

pub loop-i-preserved : goal.loop-i-preserved
loop-i-preserved c =
    (c.loop-i.invariant.0, (λ v h. option_next (air_from c.args.profile.now) (bit_at c.args.buf.now) v _ _ c.args.at c.loop-i.i _ _ _ (c.loop-i.invariant.1 v h) (search rules) (omega (arith, c.loop-i.invariant.0, c.if-i-ge7.false)) _ _ _ (omega (arith, c.if-i-ge7.false)) (one_bit c.args.buf.now _ _ c.bit.ensures c.if-bit-eq0.false) c.in_ok-next.ensures c.put_mark.ensures))

pub returns-then-some : goal.returns-then-some
returns-then-some c =
    λ v h. options_done (air_from c.args.profile.now) (bit_at c.args.buf.now) v _ _ c.args.at c.loop-i.i _ _ _ c.if-some.true (c.loop-i.invariant.1 v h) (omega arith)
