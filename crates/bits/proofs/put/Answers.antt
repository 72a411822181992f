-- `bits::put` meets its contract: what its tests refuse can't be put, and what they let pass lies in the bytes.
use mathlib.Core.Path.{sym, ◌∙◌}
use native.Mathlib.Omega.{arith}
use Rattle.bits.proofs.PutLaws.{put_there, put_wide, put_past}
use Rattle.bits.proofs.put.Goals as goal
use Rattle.bits.proofs.put.Goals.{then-width-gt64-via-then-width-gt64, then-width-gt64-via-else-width-gt64+then-at-out, then-width-gt64-via-else-width-gt64+else-at-out+then-at-width}

pub returns-then-width-gt64 : goal.returns-then-width-gt64
returns-then-width-gt64 c =
    elim c.then-width-gt64.branch [
      | then-width-gt64-via-then-width-gt64 w ↦ sym (put_wide _ _ _ _ (omega arith))
      | then-width-gt64-via-else-width-gt64+then-at-out w ↦ sym (put_past _ _ _ _ (omega arith) (omega arith))
      | then-width-gt64-via-else-width-gt64+else-at-out+then-at-width w ↦ sym (put_past _ _ _ _ (omega arith) (omega arith))
    ]

pub returns : goal.returns
returns c = c.put_inside.ensures ∙ sym (put_there _ _ _ _ (omega arith) (omega arith))
