use Rattle.console.proofs.CallLaws.{read_number_lem, laid_number}
use Rattle.console.proofs.cad_read.Goals as goal

pub returns-in-Ok : goal.returns-in-Ok
returns-in-Ok c = let r = c.in-Ok.ensures in (laid_number _ _ _ _ r.0, r.1)

pub returns-in-Err : goal.returns-in-Err
returns-in-Err c = let r = c.in-Err.ensures in (read_number_lem _ _ _ _ _ r.0, r.1)
