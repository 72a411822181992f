use Prim.Native.Nat.{◌-◌}
use mathlib.Core.Path.{◌≡◌}
use Rattle.bits.specs.Fields.{bit_at}
use Rattle.codec.specs.Codec.{vec_read}
use Rattle.message.specs.Addresses.{address_c}
use Rattle.message.specs.Groups.{places_c}
use Rattle.reading.proofs.ReadLaws.{fill}
use Rattle.reading.proofs.group.read_places.Given as goal

abbrev pub invariant-loop-i : goal.invariant-loop-i
invariant-loop-i l =
    (places_c l.external l.count).read (bit_at l.buf) l.bits l.at ≡ fill (address_c l.external) l.list l.i (vec_read (address_c l.external) (l.count - l.i) (bit_at l.buf) l.bits l.next)
