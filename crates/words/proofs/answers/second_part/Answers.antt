use Rattle.blocks.proofs.BlockLaws.{wrote_none}
use Rattle.words.specs.Words.{second_words}
use Rattle.words.proofs.answers.second_part.Goals as goal

pub returns-then-more : goal.returns-then-more
unfolding second_words
returns-then-more c = rw c.if-more.true c.add_numbered.ensures

pub returns : goal.returns
unfolding second_words
returns c = rw c.if-more.false (wrote_none _ _)
