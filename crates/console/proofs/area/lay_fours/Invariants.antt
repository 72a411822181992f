use Rattle.std.proofs.Common.{◌≡◌, ◌+◌, ◌-◌, ◌*◌}
use lib.Seq.{sets}
use Rattle.bits.specs.Fields.{bit_at}
use Rattle.layouts.proofs.PlaceLaws.{fours}
use Rattle.console.proofs.area.lay_fours.Given as goal

abbrev pub invariant-loop-i : goal.invariant-loop-i
invariant-loop-i l = sets l.initial.area 456 (fours (bit_at l.buf) l.at l.count) ≡ sets l.area (456 + l.i) (fours (bit_at l.buf) (l.at + 4 * l.i) (l.count - l.i))
