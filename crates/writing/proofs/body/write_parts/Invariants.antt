use Rattle.std.proofs.Common.{◌-◌, length, drop}
use Rattle.message.specs.Rows.{first_parts, options_of}
use Rattle.writing.proofs.WroteLaws.{Left}
use Rattle.writing.specs.Parts.{parts_bits}
use Rattle.writing.proofs.body.write_parts.Given as goal

abbrev pub invariant-loop-slot : goal.invariant-loop-slot
invariant-loop-slot l = Left l.initial.out l.out l.at l.next (parts_bits l.air l.initial.made (first_parts (length l.slot-items) l.slot-items) (options_of l.fn.row) l.v) (parts_bits l.air l.made (first_parts (length l.slot-items - l.slot-index) (drop l.slot-index l.slot-items)) (options_of l.fn.row) l.v)
