use Rattle.std.proofs.Common.{◌≡◌, ◌≤◌, length}
use Rattle.layouts.proofs.RowReads.{PartsAlong}
use Rattle.layouts.specs.Profiles.{air_from}
use Rattle.console.proofs.lay.lay_parts.Given as goal

abbrev pub invariant-loop-i : goal.invariant-loop-i
invariant-loop-i l = (length l.parts ≡ 6) × ((l.next ≤ 4096) × PartsAlong (air_from l.profile) l.buf l.count l.parts l.initial.area l.i l.area l.next)
