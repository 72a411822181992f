use Rattle.codec.specs.Codec.{both, number}
use Rattle.message.specs.Addresses.{kind_c}
use Rattle.validity.proofs.ValidLaws.{kind_two}
use Rattle.validity.proofs.address.kind_ok.Goals as goal

pub returns-then-kind-eq1 : goal.returns-then-kind-eq1
unfolding kind_c number both
returns-then-kind-eq1 c = rw c.if-kind-eq1.true

pub returns-else-kind-eq1 : goal.returns-else-kind-eq1
returns-else-kind-eq1 c = kind_two _ c.if-kind-eq1.false
