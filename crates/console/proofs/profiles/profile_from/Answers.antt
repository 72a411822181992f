use Rattle.layouts.specs.Profiles.{profile_from}
use Rattle.console.proofs.profiles.profile_from.Goals as goal

pub returns : goal.returns
unfolding profile_from
returns c = rw (c.shares_from.ensures, c.air_from.ensures)
