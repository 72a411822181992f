use Rattle.std.proofs.Common.{◌+◌, ◌*◌, refl, rules}
use Rattle.layouts.proofs.ByteLaws.{rows_start, rows_more, rows_end}
use Rattle.layouts.specs.Profiles.{shares_from}
use Rattle.console.proofs.profiles.shares_from.Goals as goal

pub loop-p-init : goal.loop-p-init
loop-p-init c = (search rules, rows_start _ _ _ _ _ _ (search rules))

pub loop-p-preserved : goal.loop-p-preserved
loop-p-preserved c =
    (search rules, rows_more _ _ _ _ _ _ _ _ c.loop-p.invariant.1 (23 + 2 * c.loop-p.p) _ (search rules) refl c.share_at.ensures)

pub returns : goal.returns
unfolding shares_from
returns c = rw (c.byte_at.ensures, rows_end _ _ _ _ _ _ _ _ c.loop-p.invariant.1 (search rules))
