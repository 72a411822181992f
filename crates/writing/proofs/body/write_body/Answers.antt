use Rattle.writing.proofs.RowLaws.{body_row}
use Rattle.writing.proofs.body.write_body.Goals as goal

pub returns : goal.returns
returns c = rw (body_row _ _ _, ← c.row_of.ensures, ← c.blank.ensures) c.write_parts.ensures
