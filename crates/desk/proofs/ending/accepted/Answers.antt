use Rattle.desk.proofs.EndLaws.{same_fits, accepted_moves, accepted_proceeds}
use Rattle.desk.proofs.ending.accepted.Goals as goal

pub moved-requires : goal.moved-requires
moved-requires c =
    let a = c.requires in
    let k = same_fits _ _ c.place_at-p.ensures a.1.0 a.1.1.0 in
    (a.0, (k.0, (k.1, a.1.1.1)))

pub returns-then-p : goal.returns-then-p
returns-then-p c = accepted_moves _ _ _ c.place_at-p.ensures _ c.if-p.true _ _ c.moved.ensures

pub returns : goal.returns
returns c =
    accepted_proceeds _ _ _ c.place_at-p.ensures _ c.if-p.false _ _ _ c.requires.0 c.requires.1.1.1 c.blank-accepted.ensures c.ended.ensures
