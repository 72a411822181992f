use Rattle.std.proofs.Common.{◌∙◌, arith}
use Rattle.bits.proofs.FieldLaws.{field_is}
use Rattle.console.proofs.LayLaws.{window_past, window_there}
use Rattle.console.proofs.word.window.Goals as goal

pub returns-then-n-lt8 : goal.returns-then-n-lt8
returns-then-n-lt8 c = c.field.ensures ∙ field_is c.args.buf.now c.args.at 57 (omega arith)

pub returns-then-s-gt63 : goal.returns-then-s-gt63
returns-then-s-gt63 c =
    window_past c.args.buf.now c.args.at c.if-n-lt8.false _ c.min-i.ensures c.if-s-gt63.true

pub returns : goal.returns
returns c =
    window_there c.args.buf.now c.args.at c.if-n-lt8.false _ c.min-i.ensures _ c.if-s-gt63.false c.eight.ensures
