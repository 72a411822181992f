use Rattle.std.proofs.Common.{◌+◌, sym, refl, ◌∙◌, arith}
use Rattle.bits.proofs.FieldLaws.{bit_lt, field_below}
use Rattle.bits.specs.Fields.{bit_at}
use Rattle.console.proofs.LayLaws.{zero_bit}
use Rattle.layouts.proofs.PartLaws.{accepted_lay, rejected_lay}
use Rattle.layouts.specs.Profiles.{air_from}
use Rattle.console.proofs.part.lay_result.Goals as goal

pub returns-then-result-eq1 : goal.returns-then-result-eq1
returns-then-result-eq1 c =
    λ v l. accepted_lay (air_from c.args.profile.now) (bit_at c.args.buf.now) (bit_lt c.args.buf.now) c.args.area.now _ c.args.at _ v l (sym c.bit-result.ensures ∙ c.if-result-eq1.true) refl refl

pub overflow_cast-area : goal.overflow_cast-area
overflow_cast-area c =
    omega (arith, c.take.ensures, field_below 8 c.args.buf.now (c.args.at + 1) 7 (omega arith))

pub returns : goal.returns
returns c =
    λ v l. rejected_lay (air_from c.args.profile.now) (bit_at c.args.buf.now) (bit_lt c.args.buf.now) c.args.area.now _ c.args.at _ v l _ (zero_bit c.args.buf.now c.args.at _ c.bit-result.ensures c.if-result-eq1.false) c.take.ensures refl refl
