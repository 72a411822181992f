use Rattle.std.proofs.Common.{sym, ◌∙◌, arith}
use Rattle.console.proofs.CallLaws.{read_number_lem, laid_number, position_low, told_position, told_element, left_position, left_element, laid_position, laid_element}
use Rattle.console.proofs.cad_read_at.Goals as goal

pub returns-in-Ok : goal.returns-in-Ok
returns-in-Ok c =
    let r = c.in-Ok.ensures in
    (laid_number _ _ _ _ r.0, (r.1, (laid_position _ _ _ _ r.0 _, laid_element _ _ _ _ r.0 _)))

pub overflow_cast-position : goal.overflow_cast-position
overflow_cast-position c = omega (arith, position_low _ _ _ _ _ c.in-Err.ensures.0)

pub returns-then-stop-eq4 : goal.returns-then-stop-eq4
returns-then-stop-eq4 c =
    let r = c.in-Err.ensures in
    let four = c.if-stop-eq4.true in
    (sym four ∙ read_number_lem _ _ _ _ _ r.0, (r.1, (told_position _ _ _ _ _ r.0 four _, told_element _ _ _ _ _ r.0 four _)))

pub returns-else-stop-eq4 : goal.returns-else-stop-eq4
returns-else-stop-eq4 c =
    let r = c.in-Err.ensures in
    let other = c.if-stop-eq4.false in
    (read_number_lem _ _ _ _ _ r.0, (r.1, (left_position _ _ _ _ _ r.0 other _, left_element _ _ _ _ _ r.0 other _)))
