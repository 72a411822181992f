use Prim.Native.Nat.{◌-◌}
use Rattle.blocks.proofs.BlockLaws.{Yet}
use Rattle.words.specs.Words.{ack_bits, ack_hex}
use Rattle.words.proofs.WordLaws.{each}
use Rattle.words.proofs.answers.acks.Given as goal

abbrev pub invariant-loop-k : goal.invariant-loop-k
invariant-loop-k l = Yet l.block l.end (each (ack_bits l.laid) (3 - l.k) l.k) l.initial.block l.initial.end (each (ack_bits l.laid) 3 0)

abbrev pub invariant-loop-k-2 : goal.invariant-loop-k-2
invariant-loop-k-2 l = Yet l.block l.end (each (ack_hex l.laid l.area) (3 - l.k) l.k) l.initial.block l.initial.end (each (ack_hex l.laid l.area) 3 0)
