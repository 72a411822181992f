-- The records that are lent are copied, and none stands after them.
use Rattle.host.proofs.LendLaws.{load_copied}
use Rattle.host.proofs.load.Goals as goal

pub returns : goal.returns
returns c = load_copied c.args.records.now c.copy_from_slice.new.self c.min-lent.result c.min-lent.ensures c.copy_from_slice.ensures.after
