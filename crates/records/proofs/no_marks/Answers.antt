use borrow.Author.Rules.{rules}
use Rattle.records.specs.Marking.{unmarked, nobody_marked, no_marks}
use Rattle.records.proofs.no_marks.Goals as goal

pub returns : goal.returns
unfolding no_marks nobody_marked unmarked
returns c = search rules
