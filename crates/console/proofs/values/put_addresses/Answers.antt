use Rattle.std.proofs.Common.{refl, arith, rules}
use Rattle.layouts.proofs.ByteLaws.{bytes_start, bytes_more, bytes_end, bytes_same}
use Rattle.layouts.proofs.PutLaws.{length_address}
use Rattle.layouts.specs.Values.{address_bytes}
use Rattle.message.specs.Addresses.{nobody}
use Rattle.console.proofs.values.put_addresses.Goals as goal

pub loop-i-init : goal.loop-i-init
loop-i-init c = (search rules, bytes_start address_bytes 7 length_address _ _ _)

pub loop-i-preserved : goal.loop-i-preserved
loop-i-preserved c =
    (search rules, bytes_more address_bytes 7 length_address _ _ _ _ _ c.loop-i.invariant.1 nobody _ _ (omega arith) refl c.put_address.ensures)

pub shape_of-out : goal.shape_of-out
shape_of-out c = bytes_same address_bytes 7 length_address _ _ _ _ _ c.loop-i.invariant.1

pub returns : goal.returns
returns c =
    (bytes_end address_bytes 7 length_address _ _ _ _ _ c.loop-i.invariant.1 (omega arith), c.loop-i.invariant.0)
