use mathlib.Core.Path.{sym, ◌∙◌}
use borrow.Author.Rules.{rules}
use Rattle.validity.proofs.RowLaws.{options_turn, options_not, options_done, options_start}
use Rattle.validity.proofs.body.options_ok.Goals as goal

pub loop-option-init : goal.loop-option-init
loop-option-init c = options_start _ _ _ _ _

pub loop-option-preserved : goal.loop-option-preserved
loop-option-preserved c =
    c.loop-option.invariant
    ∙ options_turn _ _ _ c.args.row.optional _ (search rules) _ _ c.loop-option-test.true _ (sym c.option_ok.ensures ∙ c.if-not-option_ok.false) c.copied_option-made.ensures

pub returns-then-not-option_ok : goal.returns-then-not-option_ok
returns-then-not-option_ok c =
    sym (c.loop-option.invariant ∙ options_not _ _ _ c.args.row.optional _ (search rules) _ _ c.loop-option-test.true (sym c.option_ok.ensures ∙ c.if-not-option_ok.true))

pub returns : goal.returns
returns c =
    c.same_value.ensures ∙ sym (c.loop-option.invariant ∙ options_done _ _ _ c.args.row.optional _ (search rules) _ _ c.loop-option-test.false)
