-- `bits::field` meets its contract: the two shifts leave just the field's bits, of eight bytes or of nine.
use mathlib.Core.Path.{sym, ◌∙◌}
use native.Mathlib.Omega.{arith}
use Prim.Native.Nat.{◌+◌, ◌/◌, ◌<◌}
use lib.ListN.{get_or}
use Rattle.bits.proofs.FieldLaws.{field_none, field_wide, field_is, field_below}
use Rattle.bits.proofs.WordLaws.{one_word, nine_bytes, word_and_byte}
use Rattle.bits.proofs.field.Goals as goal
use Rattle.bits.proofs.field.Goals.{then-width-eq0-via-then-width-eq0, then-width-eq0-via-else-width-eq0+then-width-gt64}

-- the ninth byte is a byte
small : (c : goal.After-byte_at) → get_or c.args.buf.now (c.args.at / 8 + 8) 0 < 256
small c = omega (arith, c.byte_at.ensures)

pub returns-then-width-eq0 : goal.returns-then-width-eq0
returns-then-width-eq0 c =
    elim c.then-width-eq0.branch [
      | then-width-eq0-via-then-width-eq0 w ↦ sym (field_none _ _ _ (omega arith))
      | then-width-eq0-via-else-width-eq0+then-width-gt64 w ↦ sym (field_wide _ _ _ (omega arith))
    ]

pub returns-then-first-width-le64 : goal.returns-then-first-width-le64
returns-then-first-width-le64 c =
    rw c.word.ensures (one_word _ _ _ (omega arith) (omega arith) ∙ sym (field_is _ _ _ (omega arith)))

pub overflow_add-result : goal.overflow_add-result
overflow_add-result c =
    let a = c.args in
    rw (c.word.ensures, c.byte_at.ensures.0)
    (record { fits = rw (nine_bytes a.buf.now a.at a.width (omega arith) (small c)) (field_below 64 a.buf.now a.at 64 (omega arith)) })

pub returns : goal.returns
returns c =
    let a = c.args in
    rw (c.word.ensures, c.byte_at.ensures.0)
    (word_and_byte a.buf.now a.at a.width (omega arith) (small c) ∙ sym (field_is _ _ _ (omega arith)))
