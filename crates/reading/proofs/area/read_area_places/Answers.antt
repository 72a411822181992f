use mathlib.Core.Path.{sym, ◌∙◌}
use borrow.Author.Rules.{rules}
use Rattle.std.proofs.lemmas.Result.{err_from_is_err_and}
use Rattle.reading.proofs.ReadLaws.{turn, turn_stop, turns_end}
use Rattle.reading.proofs.area.read_area_places.Goals as goal

pub returns-in_err-area : goal.returns-in_err-area
returns-in_err-area c =
    let p = err_from_is_err_and c.from_residual.result c.from_residual.ensures.1 in
    rw (p.1, p.2) (sym (c.loop-i.invariant ∙ turn_stop _ _ _ _ _ _ _ (search rules) _ c.in_err-area.ensures))

pub loop-i-preserved : goal.loop-i-preserved
loop-i-preserved c = c.loop-i.invariant ∙ turn _ _ _ _ _ _ _ (search rules) _ _ c.in_ok-area.ensures

pub returns : goal.returns
returns c = sym (c.loop-i.invariant ∙ turns_end _ _ _ _ _ _ _ (search rules))
