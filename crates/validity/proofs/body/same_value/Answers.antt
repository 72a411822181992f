use mathlib.Core.Path.{◌∙◌}
use Rattle.validity.proofs.SameLaws.{value_same}
use Rattle.validity.proofs.body.same_value.Goals as goal

pub returns : goal.returns
returns c = c.eq.ensures ∙ value_same c.args.a c.args.b
