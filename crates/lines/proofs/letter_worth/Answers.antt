use Rattle.std.proofs.Common.{rules, le-ltb, lt-ltb}
use Rattle.lines.specs.Parsing.{letter_worth}
use Rattle.lines.proofs.letter_worth.Goals as goal

pub returns-then-past-lt6 : goal.returns-then-past-lt6
unfolding letter_worth
returns-then-past-lt6 c = rw (lt-ltb c.args.past 6 (search rules))

pub returns-else-past-lt6 : goal.returns-else-past-lt6
unfolding letter_worth
returns-else-past-lt6 c = rw (le-ltb c.args.past 6 (search rules))
