-- `bits::word_of_last` meets its contract: past the end every bit is 0, so the last eight bytes have all that is not.
use mathlib.Core.Path.{sym}
use native.Mathlib.Omega.{arith}
use Rattle.bits.proofs.FieldLaws.{field_past}
use Rattle.bits.proofs.WordLaws.{last_word}
use Rattle.bits.proofs.word_of_last.Goals as goal

pub returns-then-i-buf : goal.returns-then-i-buf
returns-then-i-buf c = sym (field_past _ _ _ (omega arith))

pub returns : goal.returns
returns c = rw c.word_inside.ensures (last_word _ _ (omega arith) (omega arith) (omega arith))
