use mathlib.Core.Path.{sym, ◌∙◌}
use borrow.Author.Tests.{le-ltb}
use Rattle.validity.proofs.ValidLaws.{header_fits, header_wide}
use Rattle.validity.proofs.header_ok.Goals as goal

pub returns-then-ss-lt64 : goal.returns-then-ss-lt64
returns-then-ss-lt64 c = c.is_carried.ensures ∙ header_fits _ _ c.if-ss-lt64.true

pub returns-else-ss-lt64 : goal.returns-else-ss-lt64
returns-else-ss-lt64 c = le-ltb _ _ c.if-ss-lt64.false ∙ sym (header_wide _ _ c.if-ss-lt64.false)
