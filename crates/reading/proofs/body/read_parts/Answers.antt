use mathlib.Core.Path.{sym, ◌∙◌}
use native.Mathlib.Omega.{arith}
use Rattle.std.proofs.lemmas.Result.{err_from_is_err_and}
use Rattle.reading.proofs.RowLaws.{parts_turn, parts_stop, parts_over}
use Rattle.reading.proofs.body.read_parts.Goals as goal

pub returns-in_err-with : goal.returns-in_err-with
returns-in_err-with c =
    let p = err_from_is_err_and c.from_residual.result c.from_residual.ensures.1 in
    rw (p.1, p.2) (sym (c.loop-i.invariant ∙ parts_stop _ _ _ _ _ _ _ _ (omega arith) (omega arith) _ (sym c.in_err-with.ensures)))

pub loop-i-preserved : goal.loop-i-preserved
loop-i-preserved c = c.loop-i.invariant ∙ parts_turn _ _ _ _ _ _ _ _ (omega arith) (omega arith) _ _ (sym c.in_ok-with.ensures)

pub returns : goal.returns
returns c = sym (c.loop-i.invariant ∙ parts_over _ _ _ _ _ _ _ _ 6 _ (omega arith) c.min-i-end.ensures c.loop-i-test.false)
