use mathlib.Core.Path.{refl, ◌∙◌}
use Rattle.std.proofs.lemmas.Result.{err_from_is_err_and}
use Rattle.desk.proofs.EndLaws.{end_found, end_not, decide_14, decide_end, decided}
use Rattle.desk.proofs.KeepLaws.{refused_plain}
use Rattle.sending.proofs.AckLaws.{diverted_sends}
use Rattle.desk.proofs.ending.divert.Goals as goal

pub returns-then-out-lt300 : goal.returns-then-out-lt300
returns-then-out-lt300 c =
    refused_plain _ _ _ _ _ _ _ refl c.refuse.ensures (decide_14 _ _ _ _ _ c.if-out-lt300.true)

pub returns-in_err-place : goal.returns-in_err-place
returns-in_err-place c =
    let p = err_from_is_err_and c.from_residual.result c.from_residual.ensures.1 in
    rw (p.1, p.2)
    (refused_plain _ _ _ _ _ _ _ refl refl
    (decide_end _ _ _ _ _ c.if-out-lt300.false ∙ end_not _ _ _ _ _ (rw c.number_at-identifier.ensures at c.in_err-place.ensures)))

pub returns : goal.returns
returns c =
    let f = end_found _ _ _ _ _ (rw c.number_at-identifier.ensures at c.in_ok-place.ensures) in
    decided _ _ _ _ _ _ _ _ _ _ (decide_end _ _ _ _ _ c.if-out-lt300.false ∙ f.0) refl refl f.1.0
    c.requires (diverted_sends _ c.requires) c.if-out-lt300.false c.blank-diverted.ensures c.ended.ensures
