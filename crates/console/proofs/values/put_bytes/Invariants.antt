use Rattle.std.proofs.Common.{◌≡◌, length, refl}
use lib.Seq.{sets}
use Rattle.layouts.proofs.ByteLaws.{bytes_left}
use Rattle.layouts.specs.Bytes.{rows_bytes}
use Rattle.layouts.specs.Values.{byte_bytes}
use Rattle.console.proofs.values.put_bytes.Given as goal

abbrev pub invariant-loop-i : goal.invariant-loop-i
invariant-loop-i l = (length l.list ≡ 15) × (sets l.initial.out l.at (rows_bytes byte_bytes l.list) ≡ bytes_left byte_bytes 1 (λ b. refl) l.at l.list l.out l.i)
