use mathlib.Core.Path.{sym, ◌∙◌}
use Rattle.std.proofs.lemmas.Result.{err_from_is_err_and}
use Rattle.reading.proofs.WalkLaws.{addresses_turn, addresses_stop, addresses_end}
use Rattle.reading.proofs.walk.walk_addresses.Goals as goal

pub returns-in_err-next : goal.returns-in_err-next
returns-in_err-next c =
    let p = err_from_is_err_and c.from_residual.result c.from_residual.ensures.1 in
    rw (p.1, p.2) (sym (c.loop-i.invariant ∙ addresses_stop _ _ _ _ _ _ c.loop-i-test.true _ c.in_err-next.ensures))

pub loop-i-preserved : goal.loop-i-preserved
loop-i-preserved c = c.loop-i.invariant ∙ addresses_turn _ _ _ _ _ _ c.loop-i-test.true _ c.in_ok-next.ensures

pub returns : goal.returns
returns c = sym (c.loop-i.invariant ∙ addresses_end _ _ _ _ _ _ c.loop-i-test.false)
