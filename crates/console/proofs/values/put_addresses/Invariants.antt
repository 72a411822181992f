use Rattle.std.proofs.Common.{◌≡◌, length}
use lib.Seq.{sets}
use Rattle.layouts.proofs.ByteLaws.{bytes_left}
use Rattle.layouts.proofs.PutLaws.{length_address}
use Rattle.layouts.specs.Bytes.{rows_bytes}
use Rattle.layouts.specs.Values.{address_bytes}
use Rattle.console.proofs.values.put_addresses.Given as goal

abbrev pub invariant-loop-i : goal.invariant-loop-i
invariant-loop-i l = (length l.list ≡ 15) × (sets l.initial.out l.at (rows_bytes address_bytes l.list) ≡ bytes_left address_bytes 7 length_address l.at l.list l.out l.i)
