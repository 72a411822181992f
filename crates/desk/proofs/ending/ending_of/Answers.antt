use mathlib.Core.Path.{ap}
use Rattle.std.proofs.lemmas.Bool.{not-true, not-false}
use Rattle.desk.proofs.EndLaws.{ending_here, ending_20, ending_19}
use Rattle.desk.proofs.ending.ending_of.Goals as goal

pub returns-then-not-at : goal.returns-then-not-at
returns-then-not-at c = ending_19 _ _ _ c.place_of-at.result c.place_of-at.ensures (not-true _ c.if-not-at.true) _ c.refuse.ensures

pub returns-then-p-post : goal.returns-then-p-post
returns-then-p-post c =
    ending_20 _ _ _ c.place_of-at.result c.place_of-at.ensures (not-false _ c.if-not-at.false) _ (ap (λ x. x.post) c.place_at-p.ensures) c.if-p-post.true _ c.refuse-then-p-post.ensures

pub returns : goal.returns
returns c =
    ending_here _ _ _ c.place_of-at.result c.place_of-at.ensures (not-false _ c.if-not-at.false) _ (ap (λ x. x.post) c.place_at-p.ensures) c.if-p-post.false
