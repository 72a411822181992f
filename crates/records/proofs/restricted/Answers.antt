use mathlib.Core.Path.{◌∙◌}
use Rattle.records.proofs.restricted.Goals as goal

pub returns : goal.returns
returns c = c.party_of.ensures ∙ rw (← c.lent-lent.ensures) c.first_restricting.ensures
