use Rattle.blocks.proofs.BlockLaws.{wrote_none, wrote_join}
use Rattle.words.specs.Words.{place_words}
use Rattle.words.proofs.answers.place_part.Goals as goal

pub returns-then-place : goal.returns-then-place
unfolding place_words
returns-then-place c =
    rw c.if-place.true (wrote_join c.add_numbered-numbered.ensures (wrote_join c.add_field-named.ensures (wrote_join c.add_field-posted.ensures (wrote_join c.second_part-asked.ensures c.cause_part.ensures))))

pub returns : goal.returns
unfolding place_words
returns c = rw c.if-place.false (wrote_none _ _)
