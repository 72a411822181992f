use Rattle.codec.specs.Codec.{number}
use Rattle.message.specs.Addresses.{kind_c, address_c}
use Rattle.writing.proofs.WroteLaws.{wrote_join}
use Rattle.writing.proofs.address.write_address.Goals as goal

pub returns : goal.returns
unfolding address_c kind_c number
returns c = wrote_join c.byte-p.ensures (wrote_join c.word-q.ensures c.write_extension.ensures)
