use borrow.Author.Tests.{lt-ltb, le-ltb}
use Rattle.blocks.proofs.BlockLaws.{wrote_none}
use Rattle.words.specs.Words.{ack_hex}
use Rattle.words.proofs.answers.ack_hex.Goals as goal

pub returns-then-k-laid : goal.returns-then-k-laid
unfolding ack_hex
returns-then-k-laid c = rw (lt-ltb _ _ c.if-k-laid.true) c.sent.ensures

pub returns : goal.returns
unfolding ack_hex
returns c = rw (le-ltb _ _ c.if-k-laid.false) (wrote_none _ _)
