use borrow.Author.Rules.{rules}
use Rattle.bits.specs.Puts.{spare, pad_of}
use Rattle.bits.proofs.pad.Goals as goal

pub returns : goal.returns
unfolding pad_of spare
returns c = search rules
