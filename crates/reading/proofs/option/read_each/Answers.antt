use mathlib.Core.Bool.{◌||◌}
use mathlib.Core.Path.{◌≡◌, sym, ◌∙◌}
use native.Mathlib.Omega.{arith}
use Rattle.std.proofs.lemmas.Result.{err_from_is_err_and}
use Rattle.reading.proofs.RowLaws.{each_turn, each_stop, each_over}
use Rattle.reading.proofs.option.read_each.Goals as goal
use Rattle.reading.proofs.option.read_each.Goals.{then-some, else-some}

pub returns-in_err-there : goal.returns-in_err-there
returns-in_err-there c =
    let p = err_from_is_err_and c.from_residual.result c.from_residual.ensures.1 in
    rw (p.1, p.2) (sym (c.loop-i.invariant ∙ each_stop _ _ _ _ _ _ _ _ _ (omega arith) (omega arith) _ (sym c.in_err-there.ensures)))

pub loop-i-preserved : goal.loop-i-preserved
loop-i-preserved c =
    let or : c.if-some.some ≡ c.loop-i.some || c.in_ok-there.there =
    elim c.if-some.branch [
      | then-some w ↦ rw (w.some-is, w.if-some.true)
      | else-some w ↦ rw (w.some-is, w.if-some.false)
    ] in
    rw or (c.loop-i.invariant ∙ each_turn _ _ _ _ _ _ _ _ _ _ (omega arith) (omega arith) _ _ (sym c.in_ok-there.ensures))

pub returns : goal.returns
returns c = sym (c.loop-i.invariant ∙ each_over _ _ _ _ _ _ _ _ _ 7 _ (omega arith) c.min-i-end.ensures c.loop-i-test.false)
