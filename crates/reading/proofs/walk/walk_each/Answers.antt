use mathlib.Core.Path.{sym, ◌∙◌}
use native.Mathlib.Omega.{arith}
use Rattle.std.proofs.lemmas.Result.{err_from_is_err_and}
use Rattle.reading.proofs.WalkLaws.{option_there, option_absent, flag_stop, option_stop, options_over}
use Rattle.reading.proofs.walk.walk_each.Goals as goal
use Rattle.reading.proofs.walk.walk_each.Goals.{then-there+in_ok-k, else-there}

pub returns-in_err-there : goal.returns-in_err-there
returns-in_err-there c =
    let p = err_from_is_err_and c.from_residual.result c.from_residual.ensures.1 in
    rw (p.1, p.2) (sym (c.loop-i.invariant ∙ flag_stop _ _ _ _ _ _ _ _ _ (omega arith) (omega arith) _ c.in_err-there.ensures))

pub returns-in_err-k : goal.returns-in_err-k
returns-in_err-k c =
    let p = err_from_is_err_and c.from_residual-in_err-k.result c.from_residual-in_err-k.ensures.1 in
    rw (p.1, p.2)
    (sym (c.loop-i.invariant ∙ option_stop _ _ _ _ _ _ _ _ _ (omega arith) (omega arith) _ _ (rw c.if-there.true at c.in_ok-there.ensures) c.in_err-k.ensures))

pub loop-i-preserved : goal.loop-i-preserved
loop-i-preserved c =
    elim c.if-there.branch [
      | then-there+in_ok-k w ↦
          rw (w.span-is, w.some-is, w.next-is)
          (c.loop-i.invariant ∙ option_there _ _ _ _ _ _ _ _ _ (omega arith) (omega arith) _ _ _ (rw w.if-there.true at c.in_ok-there.ensures) w.in_ok-k.ensures)
      | else-there w ↦
          rw (w.span-is, w.some-is, w.next-is)
          (c.loop-i.invariant ∙ option_absent _ _ _ _ _ _ _ _ _ (omega arith) (omega arith) _ (rw w.if-there.false at c.in_ok-there.ensures))
    ]

pub returns : goal.returns
returns c = sym (c.loop-i.invariant ∙ options_over _ _ _ _ _ _ _ _ _ 7 _ (omega arith) c.min-i-end.ensures c.loop-i-test.false)
