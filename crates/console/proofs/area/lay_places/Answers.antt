use Rattle.std.proofs.Common.{◌≡◌, ◌+◌, ◌-◌, refl, ◌∙◌, arith}
use Rattle.bits.specs.Fields.{bit_at}
use Rattle.layouts.proofs.PlaceLaws.{area_places}
use Rattle.console.proofs.area.lay_places.Goals as goal

pub zero_run-requires : goal.zero_run-requires
zero_run-requires c = (omega (arith, c.requires), omega (arith, c.requires))

pub returns : goal.returns
returns c =
    let e : 471 - (456 + c.args.count) ≡ 15 - c.args.count = omega arith in
    area_places (bit_at c.args.buf.now) c.args.count c.args.at c.requires.0 c.args.area.now _ _ _ c.lay_fours.ensures (c.zero_run.ensures ∙ rw e) refl
