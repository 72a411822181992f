use Rattle.std.proofs.Common.{false}
use Rattle.message.specs.Addresses.{address_c}
use Rattle.writing.proofs.PartLaws.{rest_of}
use Rattle.writing.proofs.WroteLaws.{Left}
use Rattle.writing.proofs.group.write_places.Given as goal

abbrev pub invariant-loop-a : goal.invariant-loop-a
invariant-loop-a l = Left l.initial.out l.out l.at l.next (rest_of (address_c false) l.a-items 0) (rest_of (address_c false) l.a-items l.a-index)
