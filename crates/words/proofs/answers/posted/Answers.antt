use mathlib.Core.List.{append_assoc}
use Rattle.blocks.proofs.BlockLaws.{wrote_join}
use Rattle.words.specs.Words.{post_words}
use Rattle.words.proofs.answers.posted.Goals as goal

pub returns : goal.returns
unfolding post_words
returns c = rw append_assoc at (wrote_join c.add_numbered-named.ensures c.sent.ensures)
