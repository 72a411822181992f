use Rattle.std.proofs.Common.{◌+◌, sym, ap, ◌∙◌, arith, rules}
use Rattle.layouts.proofs.ByteLaws.{byte_here, rows_start, rows_more, rows_end}
use Rattle.layouts.specs.Profiles.{air_from}
use Rattle.profile.specs.Rules.{meaning_of}
use Rattle.console.proofs.profiles.air_from.Goals as goal

pub loop-r-init : goal.loop-r-init
loop-r-init c = (search rules, rows_start _ _ _ _ _ _ (search rules))

pub loop-r-preserved : goal.loop-r-preserved
loop-r-preserved c =
    let p = 6 + c.loop-r.r in
    (search rules, rows_more _ _ _ _ _ _ _ _ c.loop-r.invariant.1 p _ (search rules) (omega arith) (c.meaning_from.ensures ∙ ap meaning_of (c.byte_at.ensures ∙ sym (byte_here c.args.l.now p))))

pub returns : goal.returns
unfolding air_from
returns c =
    rw (c.byte_at-6.ensures, c.byte_at-5.ensures, c.byte_at-4.ensures, c.byte_at-3.ensures, c.three_at.ensures, c.byte_at-2.ensures, rows_end _ _ _ _ _ _ _ _ c.loop-r.invariant.1 (search rules))
