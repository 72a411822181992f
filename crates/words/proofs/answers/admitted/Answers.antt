use Rattle.blocks.proofs.BlockLaws.{wrote_join}
use Rattle.words.specs.Words.{admitted_words}
use Rattle.words.proofs.answers.admitted.Goals as goal

pub returns : goal.returns
unfolding admitted_words
returns c =
    wrote_join c.add_numbered-named.ensures (wrote_join c.add_numbered-placed.ensures (wrote_join c.sent-first.ensures c.sent.ensures))
