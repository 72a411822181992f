use mathlib.Core.Path.{◌≡◌, ◌∙◌}
use Rattle.profile.specs.Counting.{one}
use Rattle.places.proofs.HeldLaws.{one_byte}
use Rattle.blocks.proofs.BlockLaws.{wrote_none, wrote_join}
use Rattle.words.specs.Words.{record_words}
use Rattle.words.proofs.answers.record_part.Goals as goal

pub returns-then-row : goal.returns-then-row
unfolding record_words
returns-then-row c =
    let e : c.from.result ≡ one c.args.row.active = c.from.ensures ∙ one_byte c.args.row.active in
    rw c.if-row.true (wrote_join c.add_numbered-numbered.ensures (wrote_join c.add_field-named.ensures (wrote_join c.add_field-extended.ensures (wrote_join c.add_field-posted.ensures (rw e at c.add_field.ensures)))))

pub returns : goal.returns
unfolding record_words
returns c = rw c.if-row.false (wrote_none _ _)
