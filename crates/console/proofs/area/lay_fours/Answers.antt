use Rattle.std.proofs.Common.{refl, arith, rules}
use Rattle.layouts.proofs.PlaceLaws.{fours_start, fours_turn, fours_end}
use Rattle.console.proofs.area.lay_fours.Goals as goal

pub loop-i-init : goal.loop-i-init
loop-i-init c = fours_start _ _ _ _

pub overflow_cast-area : goal.overflow_cast-area
overflow_cast-area c = omega (arith, c.four.ensures.1)

pub bounds-area-i : goal.bounds-area-i
bounds-area-i c = omega (arith, c.requires)

pub loop-i-preserved : goal.loop-i-preserved
loop-i-preserved c =
    fours_turn _ _ _ _ _ _ _ _ (search rules) c.loop-i.invariant c.four.ensures.0 refl

pub returns : goal.returns
returns c =
    fours_end _ _ _ c.loop-i.i _ _ (omega arith) c.loop-i.invariant
