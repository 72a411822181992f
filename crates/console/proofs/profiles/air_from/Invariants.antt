use Rattle.std.proofs.Common.{◌≡◌, length, drop}
use Rattle.layouts.proofs.ByteLaws.{rows_left}
use Rattle.layouts.specs.Bytes.{rows_from}
use Rattle.layouts.specs.Profiles.{meaning_from}
use Rattle.console.proofs.profiles.air_from.Given as goal

abbrev pub invariant-loop-r : goal.invariant-loop-r
invariant-loop-r l = (length l.meanings ≡ 16) × (rows_from meaning_from 1 16 (drop 6 l.l) ≡ rows_left meaning_from 1 16 6 l.l l.meanings l.r)
