use lib.ListN.{length}
use Rattle.blocks.specs.Blocks.{Wrote}
use Rattle.blocks.proofs.BlockLaws.{keep_wrote}
use Rattle.blocks.proofs.keep.Goals as goal
use native.Mathlib.Omega.{arith}
use mathlib.Core.Path.{◌≡◌}

pub returns : goal.returns
returns c =
    let k : length c.args.kept.bytes ≡ 1152 = omega arith in
    let p : Wrote c.args.kept.bytes c.args.kept.len c.put-len.new.block c.put-len.result c.args.piece.now = record { ends = c.put-len.ensures.0.0; holds = c.put-len.ensures.0.1 } in
    keep_wrote k p
