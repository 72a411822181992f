use mathlib.Core.Path.{refl, sym, ◌∙◌}
use native.Mathlib.Omega.{arith}
use Rattle.desk.proofs.KeepLaws.{refused_plain}
use Rattle.desk.proofs.NoticeLaws.{request_sends}
use Rattle.desk.proofs.SetUpLaws.{admit_18, admitted_is}
use Rattle.sending.proofs.AckLaws.{intercepted_sends}
use Rattle.sending.proofs.SentLaws.{two_sent}
use Rattle.desk.proofs.setup.admit.Goals as goal

pub returns-then-not-admits : goal.returns-then-not-admits
returns-then-not-admits c =
    refused_plain _ _ _ _ _ _ _ refl c.refuse.ensures (admit_18 _ _ (sym c.admits.ensures ∙ c.if-not-admits.true))

pub overflow_cast-call : goal.overflow_cast-call
overflow_cast-call c = record { fits = omega (arith, c.requires.1.0) }

pub overflow_cast-call-2 : goal.overflow_cast-call-2
overflow_cast-call-2 c = record { fits = omega (arith, c.requires.1.1.0) }

pub returns : goal.returns
returns c =
    admitted_is _ _ _ c.lowest_free-at.result _ _ _ _ _ (sym c.admits.ensures ∙ c.if-not-admits.false) c.lowest_free-at.ensures
    (two_sent _ c.requires.0 _ _ _ _ _ _ _ _ _ _ (intercepted_sends _ c.requires.0) (request_sends _ c.requires.0 _ _ c.requires.1.0 c.requires.1.1.0) c.requires.1.1.1
    c.no_laid.ensures c.blank-intercepted.ensures c.request.ensures c.send-first.ensures c.send-laid.ensures)
    c.take-next.ensures c.no_marks.ensures
