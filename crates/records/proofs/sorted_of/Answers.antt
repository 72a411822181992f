use Rattle.records.proofs.JudgeLaws.{judged_sorted}
use Rattle.records.proofs.sorted_of.Goals as goal

pub returns : goal.returns
returns c = judged_sorted _ _ _ _ _ _ c.judged_of.ensures
