use Rattle.codec.specs.Codec.{number}
use Rattle.message.specs.Messages.{header_c, message_c}
use Rattle.writing.proofs.WroteLaws.{wrote_join}
use Rattle.writing.specs.Writing.{bits_of}
use Rattle.writing.proofs.write_message.Goals as goal

pub returns : goal.returns
unfolding bits_of message_c header_c number
returns c = wrote_join (wrote_join c.byte-p.ensures c.byte-q.ensures) c.write_body.ensures
