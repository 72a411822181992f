use borrow.Author.Tests.{lt-ltb, le-ltb}
use Rattle.codec.specs.Codec.{both, number}
use Rattle.message.specs.Groups.{range_c}
use Rattle.validity.proofs.group.range_ok.Goals as goal

pub returns-then-range-lt16 : goal.returns-then-range-lt16
unfolding range_c number both
returns-then-range-lt16 c = rw (lt-ltb _ _ c.if-range-lt16.true, ← c.meaning_of.ensures) c.allowed.ensures

pub returns-else-range-lt16 : goal.returns-else-range-lt16
unfolding range_c number both
returns-else-range-lt16 c = rw (le-ltb _ _ c.if-range-lt16.false)
