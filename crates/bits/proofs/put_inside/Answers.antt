-- `bits::put_inside` meets its contract. The loop's invariant: the first k bits stand.
use Prim.Native.Nat.{ℕ}
use mathlib.Core.List.{List}
use mathlib.Core.Path.{refl, ap, ◌∙◌}
use native.Mathlib.Omega.{arith}
use Rattle.bits.proofs.PutLaws.{put_more, binary_end}
use Rattle.bits.specs.Puts.{put_bits, binary}
use Rattle.bits.proofs.put_inside.Goals as goal

pub loop-k-init : goal.loop-k-init
unfolding put_bits binary
loop-k-init c = refl

pub loop-k-preserved : goal.loop-k-preserved
loop-k-preserved c =
    let a = c.args in
    c.put_digit.ensures ∙ put_more a.out.now _ a.at a.width c.loop-k.k a.value (omega arith) c.loop-k.invariant

pub returns : goal.returns
returns c =
    let a = c.args in
    c.loop-k.invariant ∙ ap (λ (bs : List ℕ). put_bits a.out.now a.at bs) (binary_end a.width c.loop-k.k a.value (omega arith))
