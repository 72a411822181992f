use Rattle.std.proofs.Common.{◌≡◌, sym, ◌∙◌, arith}
use Rattle.layouts.proofs.PassLaws.{every_next}
use Rattle.console.proofs.LayLaws.{and_both}
use Rattle.profile.proofs.CountLaws.{every_none}
use Rattle.console.proofs.profiles.meanings_known.Goals as goal

pub loop-r-init : goal.loop-r-init
loop-r-init c = sym (every_none _)

pub loop-r-preserved : goal.loop-r-preserved
loop-r-preserved c = rw (c.is_meaning-known.ensures, c.loop-r.invariant) (and_both _ _ ∙ every_next _ _)

pub returns : goal.returns
returns c =
    let e : c.loop-r.r ≡ 16 = omega arith in
    c.loop-r.invariant ∙ rw e
