use Rattle.std.proofs.Common.{◌≡◌, length}
use lib.Seq.{sets}
use Rattle.layouts.specs.Bytes.{number_bytes}
use Rattle.console.proofs.number.put_run.Given as goal

abbrev pub invariant-loop-k : goal.invariant-loop-k
invariant-loop-k l = (length l.out ≡ length l.initial.out) × (sets l.initial.out l.at (number_bytes l.count l.v) ≡ sets l.out l.at (number_bytes l.k l.rest))
