use Prim.Native.Nat.{◌-◌}
use mathlib.Core.Path.{◌≡◌}
use lib.ListN.{drop}
use Rattle.bits.specs.Fields.{bit_at}
use Rattle.reading.specs.Parts.{parts_read}
use Rattle.reading.proofs.body.read_parts.Given as goal

abbrev pub invariant-loop-i : goal.invariant-loop-i
invariant-loop-i l =
    parts_read l.air l.initial.value l.count l.parts (bit_at l.buf) l.bits l.initial.next ≡ parts_read l.air l.value (l.count - l.i) (drop l.i l.parts) (bit_at l.buf) l.bits l.next
