use Rattle.std.proofs.Common.{sym, ◌∙◌, arith}
use Rattle.std.proofs.lemmas.Option.{IfSome_then}
use Rattle.bits.proofs.FieldLaws.{bit_lt}
use Rattle.bits.specs.Fields.{bit_at}
use Rattle.layouts.proofs.PartLaws.{AnyGroup, may_be}
use Rattle.layouts.proofs.PlaceLaws.{list_grouped, none_grouped, ends_grouped}
use Rattle.layouts.specs.Profiles.{air_from}
use Rattle.console.proofs.group.lay_group.Goals as goal

pub overflow_add-range : goal.overflow_add-range
overflow_add-range c = omega (arith, c.four-range.ensures.1)

pub overflow_cast-range : goal.overflow_cast-range
overflow_cast-range c = omega (arith, c.four-range.ensures.1)

pub returns-then-m-lt16 : goal.returns-then-m-lt16
returns-then-m-lt16 c =
    IfSome_then _ {Q = λ n. AnyGroup (air_from c.args.profile.now) c.args.buf.now c.args.at c.args.area.now c.lay_places.new.area c.args.place n} c.lay_places.ensures
    (λ n x may h. list_grouped c.args.profile.now (bit_at c.args.buf.now) (bit_lt c.args.buf.now) c.args.at c.args.area.now _ _ c.args.place _ _ _ c.four-range.ensures.0 c.put_byte.ensures c.byte_at-m.ensures may c.if-m-eq0.false c.if-m-lt16.true x)

pub returns-then-m-eq16 : goal.returns-then-m-eq16
returns-then-m-eq16 c =
    IfSome_then _ {Q = λ n. AnyGroup (air_from c.args.profile.now) c.args.buf.now c.args.at c.args.area.now c.lay_places-then-m-eq16.new.area c.args.place n} c.lay_places-then-m-eq16.ensures
    (λ n x may h. none_grouped c.args.profile.now (bit_at c.args.buf.now) (bit_lt c.args.buf.now) c.args.at c.args.area.now _ _ c.args.place _ _ _ c.four-range.ensures.0 c.put_byte.ensures c.byte_at-m.ensures may (may_be may _ h c.if-place-eq1.false) c.if-m-eq16.true x)

pub ends_ok-requires : goal.ends_ok-requires
ends_ok-requires c = omega (arith, c.requires)

pub returns-then-ends_ok : goal.returns-then-ends_ok
returns-then-ends_ok c =
    IfSome_then _ {Q = λ n. AnyGroup (air_from c.args.profile.now) c.args.buf.now c.args.at c.args.area.now c.lay_places-next.new.area c.args.place n} c.lay_places-next.ensures
    (λ n x may h. ends_grouped c.args.profile.now (bit_at c.args.buf.now) (bit_lt c.args.buf.now) c.args.at c.args.area.now _ _ c.args.place _ _ _ c.four-range.ensures.0 c.put_byte.ensures c.byte_at-m.ensures may (omega (arith, c.if-m-eq0.false, c.if-m-lt16.false, c.if-m-eq16.false)) x (omega (arith, c.requires)) (sym c.ends_ok.ensures ∙ c.if-ends_ok.true))
