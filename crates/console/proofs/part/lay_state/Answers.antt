use Rattle.std.proofs.Common.{refl, arith}
use Rattle.bits.proofs.FieldLaws.{bit_lt}
use Rattle.bits.specs.Fields.{bit_at}
use Rattle.layouts.proofs.PartLaws.{state_lay, no_state_lay}
use Rattle.layouts.specs.Profiles.{air_from}
use Rattle.console.proofs.part.lay_state.Goals as goal

pub overflow_cast-w : goal.overflow_cast-w
overflow_cast-w c = omega (arith, c.if-w-lt64.true)

pub returns-then-w-lt64 : goal.returns-then-w-lt64
returns-then-w-lt64 c =
    λ v l. no_state_lay (air_from c.args.profile.now) (bit_at c.args.buf.now) (bit_lt c.args.buf.now) c.args.area.now _ c.args.at _ v l _ c.take-w.ensures c.if-w-lt64.true refl c.put_state.ensures

pub returns : goal.returns
returns c =
    λ v l. state_lay (air_from c.args.profile.now) (bit_at c.args.buf.now) (bit_lt c.args.buf.now) c.args.area.now _ c.args.at _ v l _ c.take-w.ensures c.if-w-lt64.false refl c.put_state-2.ensures
