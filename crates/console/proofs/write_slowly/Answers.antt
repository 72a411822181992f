use Rattle.std.proofs.Common.{sym, refl, ◌∙◌}
use Rattle.console.proofs.CallLaws.{write_1, write_22, write_0, write_no}
use Rattle.console.proofs.write_slowly.Goals as goal

pub returns-then-not-passes : goal.returns-then-not-passes
returns-then-not-passes c = write_1 _ _ _ _ (sym c.passes.ensures ∙ c.if-not-passes.true)

pub returns-then-not-is_value : goal.returns-then-not-is_value
returns-then-not-is_value c =
    write_22 _ _ _ _ (sym c.passes.ensures ∙ c.if-not-passes.false) (sym c.is_value.ensures ∙ c.if-not-is_value.true)

pub returns-in-Ok : goal.returns-in-Ok
returns-in-Ok c =
    write_0 _ _ _ _ (sym c.passes.ensures ∙ c.if-not-passes.false) (sym c.is_value.ensures ∙ c.if-not-is_value.false) _ c.profile_from.ensures _ c.value_from.ensures _ _ c.in-Ok.ensures _ refl

pub returns-in-Err : goal.returns-in-Err
returns-in-Err c =
    write_no _ _ _ _ (sym c.passes.ensures ∙ c.if-not-passes.false) (sym c.is_value.ensures ∙ c.if-not-is_value.false) _ c.profile_from.ensures _ c.value_from.ensures _ _ c.in-Err.ensures _ refl
