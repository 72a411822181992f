use Rattle.std.proofs.Common.{◌≡◌, ◌+◌, ◌-◌, ◌*◌, refl, ◌∙◌, arith}
use Rattle.bits.proofs.FieldLaws.{bit_lt}
use Rattle.bits.specs.Fields.{bit_at}
use Rattle.layouts.proofs.PlaceLaws.{places_of, places_none}
use Rattle.console.proofs.group.lay_places.Goals as goal

pub returns-then-count-eq0 : goal.returns-then-count-eq0
returns-then-count-eq0 c =
    let e : c.args.p + 105 - c.args.p ≡ 105 = omega arith in
    places_none (bit_at c.args.buf.now) (bit_lt c.args.buf.now) c.args.count c.args.at c.requires.1.0 c.args.area.now c.args.area.now _ c.args.p _ c.if-count-eq0.true refl (c.zero_run.ensures ∙ rw e)

pub zero_run-requires-2 : goal.zero_run-requires-2
zero_run-requires-2 c = (omega (arith, c.requires), omega (arith, c.requires))

pub returns : goal.returns
returns c =
    let e : c.args.p + 105 - (c.args.p + 7 * c.args.count) ≡ 105 - 7 * c.args.count = omega (arith, c.requires) in
    places_of (bit_at c.args.buf.now) (bit_lt c.args.buf.now) c.args.count c.args.at c.requires.1.0 c.args.area.now _ _ c.args.p _ c.in_ok-next.ensures (c.zero_run-2.ensures ∙ rw e)
