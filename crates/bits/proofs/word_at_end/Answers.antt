-- `bits::word_at_end` meets its contract. The loop's invariant: the number is the field of the k bytes passed.
use Prim.Native.Nat.{◌*◌}
use mathlib.Core.Path.{◌≡◌, refl, ◌∙◌}
use native.Mathlib.Omega.{arith}
use Rattle.bits.proofs.WordLaws.{bytes_lt, byte_more}
use Rattle.bits.specs.Fields.{field_at}
use Rattle.bits.proofs.word_at_end.Goals as goal

pub loop-k-init : goal.loop-k-init
unfolding field_at
loop-k-init c = refl

pub overflow_mul-v : goal.overflow_mul-v
overflow_mul-v c = omega (arith, bytes_lt c.args.buf.now c.args.i c.loop-k.k (omega arith))

pub overflow_add-v : goal.overflow_add-v
overflow_add-v c = omega (arith, bytes_lt c.args.buf.now c.args.i c.loop-k.k (omega arith))

pub loop-k-preserved : goal.loop-k-preserved
loop-k-preserved c = let more = byte_more c.args.buf.now c.args.i c.loop-k.k (omega (arith, c.byte_at.ensures)) in cc more

pub returns : goal.returns
returns c =
    let e : 8 * c.loop-k.k ≡ 64 = omega arith in
    c.loop-k.invariant ∙ rw e
