use mathlib.Core.Path.{refl}
use Rattle.sending.specs.Sending.{no_laid}
use Rattle.sending.proofs.no_laid.Goals as goal

pub returns : goal.returns
unfolding no_laid
returns c = refl
