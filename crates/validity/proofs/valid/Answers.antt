use mathlib.Core.Path.{sym, ◌∙◌}
use Rattle.codec.specs.Codec.{both}
use Rattle.message.specs.Messages.{message_c}
use Rattle.validity.specs.Validity.{valid_of}
use Rattle.validity.proofs.valid.Goals as goal

pub returns-then-header_ok : goal.returns-then-header_ok
unfolding valid_of message_c both
returns-then-header_ok c = rw (sym c.header_ok.ensures ∙ c.if-header_ok.true) c.body_ok.ensures

pub returns-else-header_ok : goal.returns-else-header_ok
unfolding valid_of message_c both
returns-else-header_ok c = rw (c.if-header_ok.false, sym c.header_ok.ensures ∙ c.if-header_ok.false)
