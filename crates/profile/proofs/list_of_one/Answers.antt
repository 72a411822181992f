-- `profile::list_of_one` meets its contract: the position of the first, or the sixteen's length.
use Rattle.std.proofs.Common.{◌∙◌, arith}
use Rattle.profile.specs.Rules.{reserved, meaning_in, is_one, list_of_one}
use Rattle.profile.proofs.CountLaws.{lowest_listed}
use Rattle.profile.proofs.list_of_one.Goals as goal

pub returns : goal.returns
unfolding list_of_one meaning_in
returns c = c.unwrap_or.ensures ∙ rw c.first_of_one.ensures (lowest_listed is_one reserved c.args.meanings 16 (omega arith))
