use Rattle.std.proofs.Common.{◌∙◌}
use Prim.Native.Nat.{◌+◌, ◌%◌, ◌^◌}
use native.Mathlib.Omega.{arith}
use Rattle.lines.proofs.ShapeLaws.{worth_digit, worth_letter}
use Rattle.lines.proofs.hex_digit.Goals as goal

pub returns-then-past-lt10 : goal.returns-then-past-lt10
returns-then-past-lt10 c = worth_digit c.args.b _ (omega arith) (omega arith) (omega arith)

pub returns : goal.returns
returns c =
    c.letter_worth.ensures ∙ worth_letter c.args.b ((c.args.b + 208) % 2 ^ 8) (omega arith) (omega arith) _ (omega arith) (omega arith) (omega arith)
