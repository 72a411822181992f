use Rattle.std.proofs.Common.{◌≡◌}
use lib.Seq.{sets}
use Rattle.layouts.specs.Bytes.{number_bytes}
use Rattle.console.proofs.number.put_number.Given as goal

abbrev pub invariant-loop-k : goal.invariant-loop-k
invariant-loop-k l = sets l.initial.out l.at (number_bytes l.count l.v) ≡ sets l.out l.at (number_bytes l.k l.rest)
