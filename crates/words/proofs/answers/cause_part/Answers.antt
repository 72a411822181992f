use borrow.Author.Tests.{eq-eqb, ne_eqb}
use Rattle.blocks.proofs.BlockLaws.{wrote_none}
use Rattle.words.specs.Words.{cause_words}
use Rattle.words.proofs.answers.cause_part.Goals as goal

pub returns-then-cause-eq0 : goal.returns-then-cause-eq0
unfolding cause_words
returns-then-cause-eq0 c = rw (eq-eqb _ _ c.if-cause-eq0.true) (wrote_none _ _)

pub returns : goal.returns
unfolding cause_words
returns c = rw (ne_eqb _ _ c.if-cause-eq0.false) c.add_numbered.ensures
