use borrow.Author.Rules.{rules}
use Rattle.blocks.proofs.TextLaws.{wrote_text}
use Rattle.blocks.specs.Blocks.{Wrote}
use Rattle.blocks.specs.Texts.{no_room}
use Rattle.words.specs.Words.{words_of}
use Rattle.words.proofs.said.Goals as goal

pub returns : goal.returns
returns c =
    let w : Wrote no_room 0 c.written.result.bytes c.written.result.len (words_of c.args.answer c.args.laid c.args.area.now) = search rules in wrote_text w
