use Rattle.std.proofs.Common.{sym, ◌∙◌}
use Rattle.codec.proofs.Good.{not_both}
use Rattle.console.proofs.DrawLaws.{reads_back}
use Rattle.console.proofs.reads_back.Goals as goal

pub returns-then-is_err : goal.returns-then-is_err
returns-then-is_err c = λ e. not_both e

pub returns : goal.returns
returns c =
    let r = c.read_into.ensures in
    λ e. reads_back _ _ _ _ _ _ _ r.0 r.1 (sym c.is_err.ensures.value ∙ c.if-is_err.false) (c.same_bytes.ensures e)
