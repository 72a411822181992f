use mathlib.Core.Path.{sym, ◌∙◌}
use native.Mathlib.Omega.{arith}
use Rattle.std.proofs.lemmas.Result.{err_from_is_err_and}
use Rattle.reading.proofs.WalkLaws.{walk_turn, walk_stop, walk_over}
use Rattle.reading.proofs.walk.walk_parts.Goals as goal

pub returns-in_err-k : goal.returns-in_err-k
returns-in_err-k c =
    let p = err_from_is_err_and c.from_residual.result c.from_residual.ensures.1 in
    rw (p.1, p.2) (sym (c.loop-i.invariant ∙ walk_stop _ _ _ _ _ _ _ _ (omega arith) (omega arith) _ c.in_err-k.ensures))

pub loop-i-preserved : goal.loop-i-preserved
loop-i-preserved c = c.loop-i.invariant ∙ walk_turn _ _ _ _ _ _ _ _ (omega arith) (omega arith) _ _ c.in_ok-k.ensures

pub returns : goal.returns
returns c = sym (c.loop-i.invariant ∙ walk_over _ _ _ _ _ _ _ _ 6 _ (omega arith) c.min-i-end.ensures c.loop-i-test.false)
