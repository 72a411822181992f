use Prim.Native.Nat.{◌-◌, ◌+◌}
use native.Mathlib.Omega.{arith}
use Rattle.blocks.proofs.BlockLaws.{wrote_join}
use Rattle.words.proofs.WordLaws.{each_turn, each_over, each_three}
use Rattle.words.specs.Words.{ack_bits, ack_hex, acks_words}
use Rattle.words.proofs.answers.acks.Goals as goal

pub loop-k-preserved : goal.loop-k-preserved
loop-k-preserved c =
    let l = c.loop-k in
    λ t i w. l.invariant t i (each_turn (ack_bits c.args.laid) (3 - l.k) (3 - (l.k + 1)) l.k (omega arith) c.ack_bits-end.ensures t i w)

pub loop-k-2-preserved : goal.loop-k-2-preserved
loop-k-2-preserved c =
    let l = c.loop-k-2 in
    λ t i w. l.invariant t i (each_turn (ack_hex c.args.laid c.args.area.now) (3 - l.k) (3 - (l.k + 1)) l.k (omega arith) c.ack_hex-end.ensures t i w)

pub returns : goal.returns
unfolding acks_words
returns c =
    wrote_join c.add_numbered-counted.ensures (wrote_join
    (rw each_three at (c.loop-k.invariant _ _ (each_over _ _ _ _ _ (omega arith))))
    (rw each_three at (c.loop-k-2.invariant _ _ (each_over _ _ _ _ _ (omega arith)))))
