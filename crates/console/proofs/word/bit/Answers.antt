use Rattle.std.proofs.Common.{◌∙◌}
use Rattle.console.proofs.LayLaws.{bit_is}
use Rattle.console.proofs.word.bit.Goals as goal

pub returns : goal.returns
returns c = bit_is c.args.buf.now c.args.at _ (c.from.ensures ∙ c.byte_at.ensures)
