use mathlib.Core.Path.{◌∙◌}
use Rattle.script.proofs.ShapeLaws.{starts_same}
use Rattle.script.proofs.shape.starts.Goals as goal

pub returns : goal.returns
returns c = c.starts_with.ensures.value ∙ starts_same c.args.line.now c.args.word.now
