use Rattle.message.specs.Areas.{area_c}
use Rattle.writing.proofs.PartLaws.{rest_of}
use Rattle.writing.proofs.WroteLaws.{Left}
use Rattle.writing.proofs.area.write_places.Given as goal

abbrev pub invariant-loop-a : goal.invariant-loop-a
invariant-loop-a l = Left l.initial.out l.out l.at l.next (rest_of area_c l.a-items 0) (rest_of area_c l.a-items l.a-index)
