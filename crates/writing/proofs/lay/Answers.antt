use Rattle.std.proofs.Common.{arith, rules}
use Rattle.writing.proofs.LayLaws.{lay_room, lay_done}
use Rattle.writing.proofs.LengthLaws.{message_most}
use Rattle.writing.proofs.lay.Goals as goal

pub returns : goal.returns
returns c =
    let most = message_most c.args.air c.args.value c.requires.0 in
    lay_done _ _ _ c.args.start _ _ (lay_room _ c.args.start _ (search rules) (omega (arith, most)) c.requires.1) c.write_message-next.ensures c.pad.ensures
