use mathlib.Core.Path.{refl}
use Rattle.profile.specs.Sample.{sample_meanings, sample_share, sample}
use Rattle.profile.proofs.sample_profile.Goals as goal

pub returns : goal.returns
unfolding sample sample_meanings sample_share
returns c = refl
