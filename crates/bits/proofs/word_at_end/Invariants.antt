use Prim.Native.Nat.{◌*◌}
use mathlib.Core.Path.{◌≡◌}
use Rattle.bits.specs.Fields.{bit_at, field_at}
use Rattle.bits.proofs.word_at_end.Given as goal

abbrev pub invariant-loop-k : goal.invariant-loop-k
invariant-loop-k l = l.v ≡ field_at (bit_at l.buf) (8 * l.i) (8 * l.k)
