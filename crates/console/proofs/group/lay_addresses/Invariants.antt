use Rattle.std.proofs.Common.{◌-◌}
use Rattle.bits.proofs.FieldLaws.{bit_lt}
use Rattle.bits.specs.Fields.{bit_at}
use Rattle.layouts.proofs.RunLaws.{Laying}
use Rattle.console.proofs.group.lay_addresses.Given as goal

abbrev pub invariant-loop-p : goal.invariant-loop-p
invariant-loop-p l = Laying (bit_at l.buf) (bit_lt l.buf) l.keep l.end l.count l.at l.initial.area l.place l.area l.next l.p l.held

abbrev pub decreases-loop-p : goal.decreases-loop-p
decreases-loop-p l = l.end - l.p
