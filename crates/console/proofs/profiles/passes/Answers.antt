use Rattle.std.proofs.Common.{sym, ◌∙◌}
use Rattle.layouts.proofs.PassLaws.{passes_not, passes_by, passes_other}
use Rattle.console.proofs.profiles.passes.Goals as goal

pub returns-then-air_passes : goal.returns-then-air_passes
returns-then-air_passes c =
    c.shares_pass.ensures ∙ passes_by _ c.if-l-eq41.true (sym c.air_passes.ensures ∙ c.if-air_passes.true)

pub returns-else-air_passes : goal.returns-else-air_passes
returns-else-air_passes c = c.if-air_passes.false ∙ passes_not _ (sym c.air_passes.ensures ∙ c.if-air_passes.false)

pub returns : goal.returns
returns c = passes_other _ c.if-l-eq41.false
