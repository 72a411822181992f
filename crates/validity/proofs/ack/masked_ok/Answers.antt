use mathlib.Core.Path.{sym, ◌∙◌}
use Rattle.validity.proofs.ValidLaws.{masked_there, masked_none}
use Rattle.validity.proofs.ack.masked_ok.Goals as goal

pub returns-then-masked : goal.returns-then-masked
returns-then-masked c = c.mask_ok.ensures ∙ sym (masked_there _ _ _ c.if-masked.true)

pub returns-else-masked : goal.returns-else-masked
returns-else-masked c = sym (masked_none _ _ _ c.if-masked.false)
