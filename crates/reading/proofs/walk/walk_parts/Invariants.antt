use Prim.Native.Nat.{◌-◌}
use mathlib.Core.Path.{◌≡◌}
use lib.ListN.{drop}
use Rattle.bits.specs.Fields.{bit_at}
use Rattle.reading.specs.Walks.{parts_walk}
use Rattle.reading.proofs.walk.walk_parts.Given as goal

abbrev pub invariant-loop-i : goal.invariant-loop-i
invariant-loop-i l =
    parts_walk l.air 0 l.count l.parts (bit_at l.buf) l.bits l.at ≡ parts_walk l.air l.span (l.count - l.i) (drop l.i l.parts) (bit_at l.buf) l.bits l.next
