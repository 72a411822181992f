use Rattle.std.proofs.Common.{rules, eq-eqb, ne_eqb}
use Rattle.codec.specs.Codec.{number}
use Rattle.message.specs.Addresses.{extension_c}
use Rattle.writing.proofs.WroteLaws.{wrote_none}
use Rattle.writing.proofs.address.write_extension.Goals as goal

pub returns-then-kind-eq1 : goal.returns-then-kind-eq1
unfolding extension_c
returns-then-kind-eq1 c = rw (eq-eqb _ _ c.if-kind-eq1.true) (wrote_none _ _ (search rules))

pub returns : goal.returns
unfolding extension_c number
returns c = rw (ne_eqb _ _ c.if-kind-eq1.false) c.word.ensures
