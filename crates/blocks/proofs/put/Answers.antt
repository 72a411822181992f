use Prim.Native.Nat.{min, ◌-◌}
use mathlib.Core.Path.{◌≡◌, refl, sym}
use native.Mathlib.Nat.{add-zero}
use native.Mathlib.Omega.{arith}
use lib.ListN.{length}
use Rattle.blocks.proofs.BlockLaws.{put_part}
use Rattle.blocks.specs.Blocks.{fits, text_end, put_text}
use Rattle.blocks.proofs.put.Goals as goal

pub returns-then-at-block : goal.returns-then-at-block
unfolding text_end put_text fits
returns-then-at-block c =
    let a = c.args in
    let z : min (length a.block.now - a.at) (length a.text.now) ≡ 0 = omega arith in
    rw z ((sym (add-zero a.at), refl), omega arith)

pub returns : goal.returns
unfolding text_end put_text fits
returns c =
    let a = c.args in
    let n : c.min-n.result ≡ min (length a.block.now - a.at) (length a.text.now) = omega arith in
    let p = put_part a.block.now a.at c.min-n.result a.text.now (omega arith) (omega arith) in
    ((rw n, rw (c.copy_from_slice.ensures.after, p, n)), omega arith)
