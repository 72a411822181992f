use Prim.Native.Nat.{◌-◌}
use mathlib.Core.Path.{◌≡◌}
use Rattle.bits.specs.Fields.{bit_at}
use Rattle.codec.specs.Codec.{vec_read}
use Rattle.message.specs.Areas.{area_c, area_places_c}
use Rattle.reading.proofs.ReadLaws.{fill}
use Rattle.reading.proofs.area.read_area_places.Given as goal

abbrev pub invariant-loop-i : goal.invariant-loop-i
invariant-loop-i l =
    (area_places_c l.count).read (bit_at l.buf) l.bits l.at ≡ fill area_c l.list l.i (vec_read area_c (l.count - l.i) (bit_at l.buf) l.bits l.next)
