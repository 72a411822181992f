use Rattle.std.proofs.Common.{arith}
use Rattle.console.proofs.DrawLaws.{drawn_laid, drawn_not}
use Rattle.console.proofs.write_drawn.Goals as goal

pub returns-then-not-reads_back : goal.returns-then-not-reads_back
returns-then-not-reads_back c = drawn_not _ _ _

pub returns-then-not-spare_zero : goal.returns-then-not-spare_zero
returns-then-not-spare_zero c = drawn_not _ _ _

pub returns-then-message-n : goal.returns-then-message-n
returns-then-message-n c = drawn_not _ _ _

pub copy_bytes-requires : goal.copy_bytes-requires
copy_bytes-requires c = let d = c.draw-n in (c.if-message-n.false, omega (arith, d.ensures, d.auto.out))

pub returns : goal.returns
returns c =
    drawn_laid _ _ _ _ _ (c.reads_back.ensures c.if-not-reads_back.false) c.if-message-n.false
    (λ j. omega (arith, c.slice_known-1.given j)) (c.spare_zero.ensures c.if-not-spare_zero.false) _ c.copy_bytes.ensures.1
