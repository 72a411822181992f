use Prim.Native.Nat.{◌-◌}
use mathlib.Core.Path.{◌≡◌}
use Rattle.bits.specs.Fields.{bit_at}
use Rattle.reading.specs.Walks.{addresses_walk}
use Rattle.reading.proofs.walk.walk_addresses.Given as goal

abbrev pub invariant-loop-i : goal.invariant-loop-i
invariant-loop-i l =
    addresses_walk l.external l.count (bit_at l.buf) l.bits l.at ≡ addresses_walk l.external (l.count - l.i) (bit_at l.buf) l.bits l.next
