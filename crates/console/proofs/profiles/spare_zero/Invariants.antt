use Rattle.std.proofs.Common.{◌≡◌, drop}
use Rattle.layouts.specs.Bytes.{are_zero}
use Rattle.layouts.specs.Profiles.{spare_zero}
use Rattle.console.proofs.profiles.spare_zero.Given as goal

abbrev pub invariant-loop-i : goal.invariant-loop-i
invariant-loop-i l = spare_zero l.l ≡ are_zero (drop l.i l.l)
