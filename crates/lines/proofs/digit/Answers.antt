use Rattle.std.proofs.Common.{refl}
use Rattle.lines.specs.Saying.{digit_of}
use Rattle.lines.proofs.digit.Goals as goal

pub returns : goal.returns
unfolding digit_of
returns c = refl
