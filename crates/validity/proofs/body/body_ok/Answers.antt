use Rattle.validity.proofs.RowLaws.{body_row}
use Rattle.validity.proofs.body.body_ok.Goals as goal

pub returns : goal.returns
returns c = rw (body_row _ _ _, ← c.row_of.ensures, ← c.blank.ensures) c.parts_ok.ensures
