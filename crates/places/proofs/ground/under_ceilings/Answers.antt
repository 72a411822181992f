-- `ground::under_ceilings` meets its contract: no post passed is over its ceiling.
use Rattle.std.proofs.Common.{sym, ◌∙◌, rules, arith}
use Rattle.profile.proofs.CountLaws.{every_none, every_more, every_not, every_end}
use Rattle.places.proofs.ground.under_ceilings.Goals as goal

pub loop-p-init : goal.loop-p-init
loop-p-init c = every_none _

pub loop-p-preserved : goal.loop-p-preserved
loop-p-preserved c = every_more _ _ c.loop-p.invariant (sym c.under_ceiling.ensures ∙ c.if-not-under_ceiling.false)

pub returns-then-not-under_ceiling : goal.returns-then-not-under_ceiling
returns-then-not-under_ceiling c =
    sym (every_not _ _ c.loop-p.p (search rules) (sym c.under_ceiling.ensures ∙ c.if-not-under_ceiling.true))

pub returns : goal.returns
returns c = every_end _ c.loop-p.p _ c.loop-p.invariant (omega arith)
