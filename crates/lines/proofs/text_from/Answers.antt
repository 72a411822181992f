use Rattle.lines.proofs.TextLaws.{text_wrote}
use Rattle.lines.proofs.text_from.Goals as goal

pub returns : goal.returns
returns c = text_wrote c.requires (record { ends = c.put-len.ensures.0.0; holds = c.put-len.ensures.0.1 })
