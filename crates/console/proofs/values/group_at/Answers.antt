use Rattle.std.proofs.Common.{◌+◌, ◌*◌, refl, drop-drop, rules}
use Rattle.layouts.proofs.ByteLaws.{byte_here, rows_start, rows_more, rows_end}
use Rattle.layouts.specs.Values.{group_from}
use Rattle.console.proofs.values.group_at.Goals as goal

pub loop-i-init : goal.loop-i-init
loop-i-init c = (search rules, rows_start _ _ _ _ _ _ (search rules))

pub loop-i-preserved : goal.loop-i-preserved
loop-i-preserved c =
    (search rules, rows_more _ _ _ _ _ _ _ _ c.loop-i.invariant.1 (c.args.at + 1 + 7 * c.loop-i.i) _ (search rules) refl c.address_at.ensures)

pub returns : goal.returns
unfolding group_from
returns c =
    rw (c.byte_at.ensures, byte_here, drop-drop 1, rows_end _ _ _ _ _ _ _ _ c.loop-i.invariant.1 (search rules))
