use Rattle.blocks.proofs.BlockLaws.{wrote_join}
use Rattle.words.specs.Words.{state_words}
use Rattle.words.proofs.answers.told.Goals as goal

pub returns : goal.returns
unfolding state_words
returns c =
    wrote_join c.add-begun.ensures (wrote_join (rw c.state.ensures at c.add-named.ensures) (wrote_join (rw c.bits_in.ensures at c.add_numbered-counted.ensures) c.sent.ensures))
