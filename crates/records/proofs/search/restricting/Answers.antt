use mathlib.Core.Path.{◌∙◌}
use Rattle.records.proofs.PartyLaws.{restricting_none, restricting_some}
use Rattle.records.proofs.search.restricting.Goals as goal

pub returns-in_err-r : goal.returns-in_err-r
returns-in_err-r c = c.from_residual.ensures ∙ restricting_none _ _ _ c.holder.ensures c.in_err-r.was

pub returns : goal.returns
returns c = c.then_some.ensures ∙ restricting_some _ _ _ c.holder.ensures _ c.in_ok-r.was
