-- `bits::word_inside` meets its contract: eight bytes, the first of most worth.
use mathlib.Core.Path.{◌∙◌}
use Rattle.bits.proofs.WordLaws.{word_of_bytes}
use Rattle.bits.proofs.word_inside.Goals as goal

pub returns : goal.returns
returns c = c.from_be_bytes.ensures ∙ word_of_bytes c.args.buf.now c.args.i (λ j. (c.type_inv.buf j).fits)
