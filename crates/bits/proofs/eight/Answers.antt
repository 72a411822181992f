use mathlib.Core.Path.{sym, ◌∙◌}
use native.Mathlib.Omega.{arith}
use Rattle.bits.proofs.FieldLaws.{eight_there, eight_not}
use Rattle.bits.proofs.eight.Goals as goal
use Rattle.bits.proofs.eight.Goals.{then-n-lt8-via-then-n-lt8, then-n-lt8-via-else-n-lt8+then-i-n}

pub returns-then-n-lt8 : goal.returns-then-n-lt8
returns-then-n-lt8 c =
    elim c.then-n-lt8.branch [
      | then-n-lt8-via-then-n-lt8 w ↦ sym (eight_not _ _ (omega arith))
      | then-n-lt8-via-else-n-lt8+then-i-n w ↦ sym (eight_not _ _ (omega arith))
    ]

pub returns : goal.returns
returns c = c.word_inside.ensures ∙ sym (eight_there _ _ (omega arith))
