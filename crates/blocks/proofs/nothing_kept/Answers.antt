use mathlib.Core.Path.{refl}
use Rattle.blocks.specs.Texts.{no_room, no_text}
use Rattle.blocks.proofs.nothing_kept.Goals as goal

pub returns : goal.returns
unfolding no_text no_room
returns c = refl
