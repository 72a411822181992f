-- `ground::all_alone` meets its contract: every place passed is apart from each lower one.
use Rattle.std.proofs.Common.{sym, ◌∙◌, rules, arith}
use Rattle.places.specs.Grounds.{alone_at}
use Rattle.places.specs.Held.{place_in}
use Rattle.profile.proofs.CountLaws.{every_none, every_more, every_not, every_end}
use Rattle.places.proofs.ground.all_alone.Goals as goal

pub loop-i-init : goal.loop-i-init
loop-i-init c = every_none _

pub loop-j-init : goal.loop-j-init
loop-j-init c = every_none _

pub loop-j-preserved : goal.loop-j-preserved
unfolding place_in
loop-j-preserved c = every_more _ _ c.loop-j.invariant (sym c.apart.ensures ∙ c.if-not-apart.false)

pub returns-then-not-apart : goal.returns-then-not-apart
unfolding place_in alone_at
returns-then-not-apart c =
    sym (every_not _ _ c.loop-i.i (search rules)
    (every_not _ _ c.loop-j.j (search rules) (sym c.apart.ensures ∙ c.if-not-apart.true)))

pub loop-i-preserved : goal.loop-i-preserved
unfolding place_in alone_at
loop-i-preserved c =
    every_more _ _ c.loop-i.invariant (sym (every_end _ c.loop-j.j _ c.loop-j.invariant (omega arith)))

pub returns : goal.returns
returns c = every_end _ c.loop-i.i _ c.loop-i.invariant (omega arith)
