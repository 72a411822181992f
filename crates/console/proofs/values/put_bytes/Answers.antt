use Rattle.std.proofs.Common.{refl, one-mul, arith, rules}
use Rattle.layouts.proofs.ByteLaws.{bytes_start, bytes_more, bytes_end, bytes_same}
use Rattle.layouts.specs.Values.{byte_bytes}
use Rattle.console.proofs.values.put_bytes.Goals as goal

pub loop-i-init : goal.loop-i-init
loop-i-init c = (search rules, bytes_start byte_bytes 1 (λ b. refl) _ _ _)

pub loop-i-preserved : goal.loop-i-preserved
loop-i-preserved c =
    (search rules, bytes_more byte_bytes 1 (λ b. refl) _ _ _ _ _ c.loop-i.invariant.1 0 _ _ (omega arith) refl (rw one-mul c.put_byte.ensures))

pub shape_of-out : goal.shape_of-out
shape_of-out c = bytes_same byte_bytes 1 (λ b. refl) _ _ _ _ _ c.loop-i.invariant.1

pub returns : goal.returns
returns c = bytes_end byte_bytes 1 (λ b. refl) _ _ _ _ _ c.loop-i.invariant.1 (omega arith)
