use Rattle.std.proofs.Common.{rules}
use Rattle.writing.proofs.WroteLaws.{put_wrote}
use Rattle.writing.proofs.element.run.Goals as goal

pub returns : goal.returns
returns c = put_wrote _ _ _ _ _ _ (search rules) c.put.ensures c.wrapping_add_usize.ensures.value
