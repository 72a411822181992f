use Rattle.std.proofs.Common.{arith}
use Rattle.writing.proofs.LayLaws.{ends_at}
use Rattle.writing.proofs.LengthLaws.{message_most}
use Rattle.writing.proofs.length_of.Goals as goal

pub returns : goal.returns
returns c =
    ends_at c.write_message.ensures (omega (arith, message_most c.args.air c.args.value c.requires))
