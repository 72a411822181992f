use Rattle.std.proofs.Common.{◌≡◌, ◌*◌, ◌^◌, ◌<◌, drop}
use Rattle.layouts.specs.Bytes.{number_from}
use Rattle.console.proofs.number.number_at.Given as goal

abbrev pub invariant-loop-k : goal.invariant-loop-k
invariant-loop-k l = (l.v ≡ number_from l.k (drop l.at l.l)) × (l.v < 2 ^ (8 * l.k))
