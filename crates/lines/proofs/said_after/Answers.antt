use Rattle.std.proofs.Common.{ℕ, List, sym, ap, ◌∙◌, arith}
use Rattle.lines.proofs.SayLaws.{say_none, say_no_bits, say_many_bits, say_few_bytes}
use Rattle.lines.specs.Saying.{text_of}
use Rattle.lines.proofs.said_after.Goals as goal
use Rattle.lines.proofs.said_after.Goals.{then-not-all_hex-via-then-not-all_hex, then-not-all_hex-via-else-not-all_hex+then-bits-lt1, then-not-all_hex-via-else-not-all_hex+else-bits-lt1+then-bits-gt4096, then-not-all_hex-via-else-not-all_hex+else-bits-lt1+else-bits-gt4096+then-bits-line}

pub returns-then-not-all_hex : goal.returns-then-not-all_hex
returns-then-not-all_hex c =
    let hex = sym c.all_hex.ensures in
    c.refused.ensures ∙ ap (λ (xs : List ℕ). text_of xs)
    (sym (elim c.then-not-all_hex.branch [
      | then-not-all_hex-via-then-not-all_hex w ↦ say_none _ _ _ (hex ∙ w.if-not-all_hex.true)
      | then-not-all_hex-via-else-not-all_hex+then-bits-lt1 w ↦ say_no_bits _ _ _ c.requires (hex ∙ w.if-not-all_hex.false) (omega arith)
      | then-not-all_hex-via-else-not-all_hex+else-bits-lt1+then-bits-gt4096 w ↦ say_many_bits _ _ _ c.requires (hex ∙ w.if-not-all_hex.false) (omega arith)
      | then-not-all_hex-via-else-not-all_hex+else-bits-lt1+else-bits-gt4096+then-bits-line w ↦ say_few_bytes _ _ _ c.requires (hex ∙ w.if-not-all_hex.false) (omega arith)
    ]))
