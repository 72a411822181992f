use Rattle.layouts.specs.Values.{lists_from}
use Rattle.console.proofs.values.lists_from.Goals as goal

pub returns : goal.returns
unfolding lists_from
returns c = rw (c.areas_at.ensures, c.group_at-2.ensures, c.group_at.ensures)
