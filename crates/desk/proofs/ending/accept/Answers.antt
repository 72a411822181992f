use mathlib.Core.Path.{refl, ◌∙◌}
use Rattle.std.proofs.lemmas.Result.{err_from_is_err_and}
use Rattle.desk.proofs.EndLaws.{end_found, end_not, decide_14, decide_end, ending_sound, accepted_by_lem}
use Rattle.desk.proofs.KeepLaws.{refused_plain}
use Rattle.desk.proofs.PostLaws.{desk_profile}
use Rattle.desk.proofs.ending.accept.Goals as goal

pub returns-then-out-lt300 : goal.returns-then-out-lt300
returns-then-out-lt300 c =
    refused_plain _ _ _ _ _ _ _ refl c.refuse.ensures (decide_14 _ _ _ _ _ c.if-out-lt300.true)

pub returns-in_err-place : goal.returns-in_err-place
returns-in_err-place c =
    let p = err_from_is_err_and c.from_residual.result c.from_residual.ensures.1 in
    rw (p.1, p.2)
    (refused_plain _ _ _ _ _ _ _ refl refl
    (decide_end _ _ _ _ _ c.if-out-lt300.false ∙ end_not _ _ _ _ _ (rw c.number_at-identifier.ensures at c.in_err-place.ensures)))

pub accepted-requires : goal.accepted-requires
accepted-requires c =
    let k = ending_sound _ _ _ c.requires _ (rw c.number_at-identifier.ensures at c.in_ok-place.ensures) in
    (desk_profile _ c.requires, (k.0, (k.1, c.if-out-lt300.false)))

pub returns : goal.returns
returns c =
    let f = end_found _ _ _ _ _ (rw c.number_at-identifier.ensures at c.in_ok-place.ensures) in
    accepted_by_lem _ _ _ _ _ _ _ (decide_end _ _ _ _ _ c.if-out-lt300.false ∙ f.0) f.1.0 c.accepted.ensures
