use Rattle.std.proofs.Common.{sym, refl, ◌∙◌, arith}
use Rattle.bits.proofs.FieldLaws.{bit_lt}
use Rattle.bits.specs.Fields.{bit_at}
use Rattle.console.proofs.LayLaws.{one_bit, mask_is, mask_few}
use Rattle.layouts.proofs.PartLaws.{no_mask_lay, mask_lay}
use Rattle.layouts.specs.Profiles.{air_from}
use Rattle.console.proofs.part.lay_mask.Goals as goal

pub returns-then-bit-eq0 : goal.returns-then-bit-eq0
returns-then-bit-eq0 c =
    λ v l. no_mask_lay (air_from c.args.profile.now) (bit_at c.args.buf.now) (bit_lt c.args.buf.now) c.args.area.now _ c.args.at _ v l (sym c.bit.ensures ∙ c.if-bit-eq0.true) refl c.put_mask.ensures

pub overflow_add-at : goal.overflow_add-at
overflow_add-at c = omega (arith, c.requires)

pub aligned-requires : goal.aligned-requires
aligned-requires c = (mask_few c.args.buf.now _ _ _ c.field.ensures c.in_ok-k.ensures.0, c.in_ok-k.ensures.0)

pub overflow_add-result-2 : goal.overflow_add-result-2
overflow_add-result-2 c = omega (arith, c.requires, c.in_ok-k.ensures.0)

pub overflow_add-result-3 : goal.overflow_add-result-3
overflow_add-result-3 c = omega (arith, c.requires, c.in_ok-k.ensures.0)

pub returns : goal.returns
returns c =
    λ v l.
    mask_lay (air_from c.args.profile.now) (bit_at c.args.buf.now) (bit_lt c.args.buf.now) c.args.area.now _ c.args.at _ v l _ _ (c.in_ok-k.ensures.1 v l) (one_bit c.args.buf.now c.args.at _ c.bit.ensures c.if-bit-eq0.false) (c.aligned.ensures ∙ mask_is c.args.buf.now _ _ _ c.field.ensures c.in_ok-k.ensures.0) refl c.put_mask-2.ensures
