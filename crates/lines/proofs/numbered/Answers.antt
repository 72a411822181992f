use native.Mathlib.Omega.{arith}
use lib.ListN.{replicate, length-append}
use Rattle.blocks.specs.Blocks.{Wrote}
use Rattle.blocks.proofs.BlockLaws.{wrote_as, wrote_join}
use Rattle.lines.specs.Saying.{position_of}
use Rattle.lines.proofs.TextLaws.{text_wrote, digits_left, length_position}
use Rattle.lines.proofs.numbered.Goals as goal

pub returns : goal.returns
returns c =
    let p = c.put-at.ensures in
    let q = c.put-len.ensures in
    let first : Wrote (replicate 20 0) 0 c.put-at.new.block c.put-at.result c.args.words.now = record { ends = p.0.0; holds = p.0.1 } in
    let second : Wrote c.put-at.new.block c.put-at.result c.put-len.new.block c.put-len.result (position_of c.args.number) =
    wrote_as (record { ends = q.0.0; holds = q.0.1 })
    (rw (c.zeros_before.ensures, c.digit.ensures, c.digit-2.ensures, c.digit-3.ensures, c.digit-4.ensures) (digits_left c.args.number)) in
    text_wrote (omega (arith, length-append c.args.words.now (position_of c.args.number), length_position c.args.number)) (wrote_join first second)
