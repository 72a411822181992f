use Rattle.std.proofs.Common.{◌+◌, sym, ◌∙◌, arith, drop-drop, rules}
use Rattle.layouts.proofs.ByteLaws.{byte_here, rows_start, rows_more, rows_end}
use Rattle.layouts.specs.Values.{areas_from}
use Rattle.console.proofs.values.areas_at.Goals as goal

pub loop-i-init : goal.loop-i-init
loop-i-init c = (search rules, rows_start _ _ _ _ _ _ (search rules))

pub loop-i-preserved : goal.loop-i-preserved
loop-i-preserved c =
    let q = c.args.at + 1 + c.loop-i.i in
    (search rules, rows_more _ _ _ _ _ _ _ _ c.loop-i.invariant.1 q _ (search rules) (omega arith) (c.byte_at.ensures ∙ sym (byte_here c.args.l.now q)))

pub returns : goal.returns
unfolding areas_from
returns c =
    rw (c.byte_at-2.ensures, byte_here, drop-drop 1, rows_end _ _ _ _ _ _ _ _ c.loop-i.invariant.1 (search rules))
