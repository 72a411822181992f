use mathlib.Core.Path.{sym, ◌∙◌}
use borrow.Author.Rules.{rules}
use Rattle.validity.proofs.RowLaws.{parts_turn, parts_not, parts_done, parts_start}
use Rattle.validity.proofs.body.parts_ok.Goals as goal

pub loop-slot-init : goal.loop-slot-init
loop-slot-init c = parts_start _ _ _ _ _ _

pub loop-slot-preserved : goal.loop-slot-preserved
loop-slot-preserved c =
    c.loop-slot.invariant
    ∙ parts_turn _ _ _ c.args.row.parts _ (search rules) _ _ _ c.loop-slot-test.true _ (sym c.part_ok.ensures ∙ c.if-not-part_ok.false) c.copied-made.ensures

pub returns-then-not-part_ok : goal.returns-then-not-part_ok
returns-then-not-part_ok c =
    sym (c.loop-slot.invariant ∙ parts_not _ _ _ c.args.row.parts _ (search rules) _ _ _ c.loop-slot-test.true (sym c.part_ok.ensures ∙ c.if-not-part_ok.true))

pub returns : goal.returns
returns c =
    c.options_ok.ensures ∙ sym (c.loop-slot.invariant ∙ parts_done _ _ _ c.args.row.parts _ (search rules) _ _ _ c.loop-slot-test.false)
