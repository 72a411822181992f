use Prim.Native.Nat.{◌-◌}
use mathlib.Core.Bool.{false}
use mathlib.Core.Path.{◌≡◌}
use lib.ListN.{drop}
use Rattle.bits.specs.Fields.{bit_at}
use Rattle.reading.specs.Parts.{each_read}
use Rattle.reading.proofs.option.read_each.Given as goal

abbrev pub invariant-loop-i : goal.invariant-loop-i
invariant-loop-i l =
    each_read l.air 0 false l.initial.value l.count l.optional (bit_at l.buf) l.bits l.initial.next ≡ each_read l.air l.i l.some l.value (l.count - l.i) (drop l.i l.optional) (bit_at l.buf) l.bits l.next
