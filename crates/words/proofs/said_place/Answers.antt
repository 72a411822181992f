use borrow.Author.Rules.{rules}
use Rattle.blocks.proofs.TextLaws.{wrote_text}
use Rattle.blocks.specs.Blocks.{Wrote}
use Rattle.blocks.specs.Texts.{no_room}
use Rattle.words.specs.Words.{place_words}
use Rattle.words.proofs.said_place.Goals as goal

pub returns : goal.returns
returns c =
    let w : Wrote no_room 0 c.written.result.bytes c.written.result.len (place_words c.args.i c.args.place) = search rules in wrote_text w
