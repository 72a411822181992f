use mathlib.Core.Path.{refl}
use Rattle.blocks.specs.Texts.{no_room}
use Rattle.words.proofs.written.Goals as goal

pub returns : goal.returns
unfolding no_room
returns g c = record { shown = _; shows = refl; left = _; met = c.put-len.ensures; leaves = refl }
