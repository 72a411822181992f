use Rattle.std.proofs.Common.{sym, ◌∙◌}
use Rattle.codec.proofs.Good.{not_both}
use Rattle.console.proofs.DrawLaws.{alike_all}
use Rattle.console.proofs.bytes.same_bytes.Goals as goal

pub returns-then-a-ne-BYTES : goal.returns-then-a-ne-BYTES
returns-then-a-ne-BYTES c = λ e. not_both e

pub returns-then-same_run : goal.returns-then-same_run
returns-then-same_run c =
    λ e. alike_all _ _ 464 471 (c.same_run.ensures c.if-same_run.true) (c.same_run-then-same_run.ensures e) c.if-a-ne-BYTES.false c.if-b-ne-BYTES.false

pub returns-else-same_run : goal.returns-else-same_run
returns-else-same_run c = λ e. not_both (sym c.if-same_run.false ∙ e)
