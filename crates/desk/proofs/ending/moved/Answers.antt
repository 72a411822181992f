use mathlib.Core.Path.{refl}
use Rattle.desk.proofs.EndLaws.{moved_18, moved_is}
use Rattle.desk.proofs.NoticeLaws.{request_sends}
use Rattle.sending.proofs.SentLaws.{one_sent}
use Rattle.desk.proofs.ending.moved.Goals as goal

pub returns-then-not-admits : goal.returns-then-not-admits
returns-then-not-admits c =
    moved_18 _ _ _ c.clear-rest.result _ c.clear-rest.ensures c.admits.ensures c.if-not-admits.true _ _ _ refl c.refuse.ensures

pub returns : goal.returns
returns c =
    moved_is _ _ _ c.clear-rest.result _ c.clear-rest.ensures c.admits.ensures c.if-not-admits.false _ _ _ _ _
    (one_sent _ c.requires.0 _ _ _ _ _ _ (request_sends _ c.requires.0 _ _ c.requires.1.0 c.requires.1.1.0) c.requires.1.1.1 c.no_laid.ensures c.request-request.ensures c.send-laid.ensures)
    c.move_on.ensures c.no_marks.ensures
