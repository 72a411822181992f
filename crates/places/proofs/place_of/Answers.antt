use Rattle.std.proofs.Common.{◌∙◌, rules}
use Rattle.places.proofs.ListLaws.{call_spot}
use Rattle.places.proofs.place_of.Goals as goal

pub returns : goal.returns
returns c = c.spot_of.ensures ∙ rw c.call_number.ensures.lowest (call_spot _ _ (search rules))
