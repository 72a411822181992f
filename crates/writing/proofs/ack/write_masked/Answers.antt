use Rattle.codec.specs.Codec.{number}
use Rattle.codec.specs.Options.{flag}
use Rattle.message.specs.Acks.{mask_c, masked_c}
use Rattle.writing.proofs.WroteLaws.{wrote_join, wrote_last}
use Rattle.writing.proofs.ack.write_masked.Goals as goal

pub returns-then-masked : goal.returns-then-masked
unfolding masked_c mask_c flag number
returns-then-masked c = rw c.if-masked.true (wrote_join c.bit-p.ensures (rw c.first.ensures at c.run.ensures))

pub returns : goal.returns
unfolding masked_c mask_c flag number
returns c = rw c.if-masked.false (wrote_last c.bit.ensures)
