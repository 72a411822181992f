use Rattle.words.specs.Words.{field_of}
use Rattle.words.proofs.texts.add_field.Goals as goal

pub returns : goal.returns
unfolding field_of
returns c = c.add_numbered.ensures
