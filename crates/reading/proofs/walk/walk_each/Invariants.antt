use Prim.Native.Nat.{◌-◌}
use mathlib.Core.Bool.{false}
use mathlib.Core.Path.{◌≡◌}
use lib.ListN.{drop}
use Rattle.bits.specs.Fields.{bit_at}
use Rattle.reading.specs.Walks.{each_walk}
use Rattle.reading.proofs.walk.walk_each.Given as goal

abbrev pub invariant-loop-i : goal.invariant-loop-i
invariant-loop-i l =
    each_walk l.air l.users false l.count l.optional (bit_at l.buf) l.bits l.at ≡ each_walk l.air l.span l.some (l.count - l.i) (drop l.i l.optional) (bit_at l.buf) l.bits l.next
