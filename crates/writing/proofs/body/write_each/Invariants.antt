use Rattle.std.proofs.Common.{◌-◌, length, drop}
use Rattle.message.specs.Rows.{first_parts}
use Rattle.writing.proofs.WroteLaws.{Left}
use Rattle.writing.specs.Parts.{each_bits}
use Rattle.writing.proofs.body.write_each.Given as goal

abbrev pub invariant-loop-option : goal.invariant-loop-option
invariant-loop-option l = Left l.initial.out l.out l.at l.next (each_bits l.air 0 l.initial.made (first_parts (length l.slot-items) l.slot-items) l.v) (each_bits l.air l.option l.made (first_parts (length l.slot-items - l.option) (drop l.option l.slot-items)) l.v)
