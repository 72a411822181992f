use Rattle.std.proofs.Common.{◌≡◌, length}
use Rattle.layouts.proofs.RowReads.{OptionsAlong}
use Rattle.layouts.specs.Profiles.{air_from}
use Rattle.console.proofs.lay.lay_behind.Given as goal

abbrev pub invariant-loop-i : goal.invariant-loop-i
invariant-loop-i l = (length l.optional ≡ 7) × OptionsAlong (air_from l.profile) l.buf l.count l.optional l.at l.initial.area l.i l.some l.area l.next
