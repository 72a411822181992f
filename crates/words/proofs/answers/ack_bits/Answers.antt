use borrow.Author.Tests.{lt-ltb, le-ltb}
use Rattle.blocks.proofs.BlockLaws.{wrote_none}
use Rattle.words.specs.Words.{ack_bits}
use Rattle.words.proofs.answers.ack_bits.Goals as goal

pub returns-then-k-laid : goal.returns-then-k-laid
unfolding ack_bits
returns-then-k-laid c = rw (lt-ltb _ _ c.if-k-laid.true) (rw c.bits_in.ensures at c.add_numbered.ensures)

pub returns : goal.returns
unfolding ack_bits
returns c = rw (le-ltb _ _ c.if-k-laid.false) (wrote_none _ _)
