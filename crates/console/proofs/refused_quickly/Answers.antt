use Rattle.std.proofs.Common.{[], sym, ◌∙◌}
use Rattle.console.proofs.CallLaws.{err_refused}
use Rattle.console.proofs.refused_quickly.Goals as goal

pub returns : goal.returns
returns c =
    err_refused _ _ _ [] (sym c.passes.ensures ∙ c.if-not-passes.false) _ (sym (c.read_type.ensures ∙ rw c.air_from.ensures)) _ c.err.ensures.value
