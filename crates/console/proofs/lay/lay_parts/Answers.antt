use Rattle.std.proofs.Common.{arith, rules}
use Rattle.bits.specs.Fields.{bit_at}
use Rattle.layouts.proofs.RowReads.{parts_begin, parts_next, parts_done}
use Rattle.layouts.specs.Profiles.{air_from}
use Rattle.console.proofs.lay.lay_parts.Goals as goal

pub loop-i-init : goal.loop-i-init
loop-i-init c =
    (search rules, (search rules, λ v h. parts_begin (air_from c.args.profile.now) (bit_at c.args.buf.now) v _ _ _ h))

pub lay_part-requires : goal.lay_part-requires
lay_part-requires c = omega (arith, c.loop-i.invariant.1.0)

pub loop-i-preserved : goal.loop-i-preserved
loop-i-preserved c =
    (c.loop-i.invariant.0, ((omega (arith, c.if-next-bits.false, c.requires), λ v h. parts_next (air_from c.args.profile.now) (bit_at c.args.buf.now) v _ _ c.loop-i.i _ _ _ _ (c.loop-i.invariant.1.1 v h) (search rules) (omega (arith, c.loop-i.invariant.0, c.if-i-ge6.false)) c.in_ok-next.ensures)))

pub returns : goal.returns
returns c =
    (c.loop-i.invariant.1.0, λ v h. parts_done (air_from c.args.profile.now) (bit_at c.args.buf.now) v _ _ c.loop-i.i _ _ (c.loop-i.invariant.1.1 v h) (omega arith))
