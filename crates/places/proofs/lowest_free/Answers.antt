use Rattle.std.proofs.Common.{◌∙◌, rules}
use Rattle.places.proofs.ListLaws.{free_spot}
use Rattle.places.proofs.lowest_free.Goals as goal

pub returns : goal.returns
returns c = c.spot_of.ensures ∙ rw c.free_number.ensures.lowest (free_spot _ (search rules))
