use Rattle.console.proofs.LayLaws.{state_stored}
use Rattle.console.proofs.part.put_state.Goals as goal

pub returns : goal.returns
returns c =
    (state_stored c.args.area.now c.args.res c.args.reason c.args.activation c.args.interception c.args.called c.args.calling _ _ _ _ c.put_pair.ensures c.put_pair-2.ensures c.put_byte.ensures c.put_byte-2.ensures).1
