use Prim.Native.Nat.{◌-◌, ◌/◌, ◌^◌}
use mathlib.Core.Path.{◌≡◌}
use Rattle.bits.specs.Puts.{put_bits, binary}
use Rattle.bits.proofs.put_inside.Given as goal

abbrev pub invariant-loop-k : goal.invariant-loop-k
invariant-loop-k l = l.out ≡ put_bits l.initial.out l.at (binary l.k (l.value / 2 ^ (l.width - l.k)))
