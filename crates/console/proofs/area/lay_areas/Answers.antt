use Rattle.std.proofs.Common.{arith}
use Rattle.bits.proofs.FieldLaws.{bit_lt}
use Rattle.bits.specs.Fields.{bit_at}
use Rattle.layouts.proofs.PartLaws.{areas_lay}
use Rattle.layouts.proofs.PlaceLaws.{list_areas, none_areas, ends_areas}
use Rattle.layouts.specs.Profiles.{air_from}
use Rattle.console.proofs.area.lay_areas.Goals as goal

pub overflow_add-range : goal.overflow_add-range
overflow_add-range c = omega (arith, c.four-range.ensures.1)

pub overflow_cast-range : goal.overflow_cast-range
overflow_cast-range c = omega (arith, c.four-range.ensures.1)

pub returns-then-m-lt16 : goal.returns-then-m-lt16
returns-then-m-lt16 c =
    λ v l. areas_lay (air_from c.args.profile.now) (bit_at c.args.buf.now) (bit_lt c.args.buf.now) c.args.area.now _ c.args.at _ v l (list_areas c.args.profile.now (bit_at c.args.buf.now) (bit_lt c.args.buf.now) c.args.at c.args.area.now _ _ _ _ _ c.four-range.ensures.0 c.put_byte.ensures c.byte_at-m.ensures v l c.if-m-eq0.false c.if-m-lt16.true c.lay_places.ensures)

pub returns-then-m-eq16 : goal.returns-then-m-eq16
returns-then-m-eq16 c =
    λ v l. areas_lay (air_from c.args.profile.now) (bit_at c.args.buf.now) (bit_lt c.args.buf.now) c.args.area.now _ c.args.at _ v l (none_areas c.args.profile.now (bit_at c.args.buf.now) (bit_lt c.args.buf.now) c.args.at c.args.area.now _ _ _ _ _ c.four-range.ensures.0 c.put_byte.ensures c.byte_at-m.ensures v l c.if-m-eq16.true c.lay_places-then-m-eq16.ensures)

pub returns-then-area : goal.returns-then-area
returns-then-area c =
    λ v l. areas_lay (air_from c.args.profile.now) (bit_at c.args.buf.now) (bit_lt c.args.buf.now) c.args.area.now _ c.args.at _ v l (ends_areas c.args.profile.now (bit_at c.args.buf.now) (bit_lt c.args.buf.now) c.args.at c.args.area.now _ _ _ _ _ c.four-range.ensures.0 c.put_byte.ensures c.byte_at-m.ensures v l (omega (arith, c.if-m-lt16.false, c.if-m-eq16.false, c.if-m-gt17.false)) c.lay_places-next.ensures (omega arith) c.if-area.true)
