use Rattle.records.proofs.JudgeLaws.{judged_marks}
use Rattle.records.proofs.marks_of.Goals as goal

pub returns : goal.returns
returns c = judged_marks _ _ _ _ _ _ c.judged_of.ensures
