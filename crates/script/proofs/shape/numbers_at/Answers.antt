use mathlib.Core.Path.{◌≡◌, sym, ◌∙◌}
use native.Mathlib.Nat.{sub-zero}
use native.Mathlib.Omega.{arith}
use Rattle.std.specs.Prelude.{Some}
use borrow.Author.Rules.{rules}
use Rattle.script.proofs.ShapeLaws.{row_full, row_none, row_end, row_other, row_more}
use Rattle.script.specs.Shape.{no_row, number_at, numbers_at}
use Rattle.script.proofs.shape.numbers_at.Goals as goal

pub loop-n-init : goal.loop-n-init
unfolding numbers_at no_row
loop-n-init c = (search rules, rw sub-zero)

pub returns-in_default : goal.returns-in_default
returns-in_default c =
    let l = c.loop-n in
    c.no_numbers.ensures ∙ sym (l.invariant.1 ∙ row_none c.args.most l.n l.number c.args.line.now l.at (search rules) (sym c.number_at.ensures ∙ c.in_default.is))

pub returns-then-d-line : goal.returns-then-d-line
returns-then-d-line c =
    let l = c.loop-n in
    let is : number_at c.args.line.now l.at ≡ Some c.in-Some.d = sym c.number_at.ensures ∙ c.in-Some.is in
    sym (l.invariant.1 ∙ row_end c.args.most l.n l.number c.args.line.now l.at (search rules) c.in-Some.d is (search rules))

pub returns-then-line-d-ne32 : goal.returns-then-line-d-ne32
returns-then-line-d-ne32 c =
    let l = c.loop-n in
    let is : number_at c.args.line.now l.at ≡ Some c.in-Some.d = sym c.number_at.ensures ∙ c.in-Some.is in
    c.no_numbers-then-line-d-ne32.ensures ∙ sym (l.invariant.1 ∙ row_other c.args.most l.n l.number c.args.line.now l.at (search rules) c.in-Some.d is (search rules) c.if-line-d-ne32.true)

pub loop-n-preserved : goal.loop-n-preserved
loop-n-preserved c =
    let l = c.loop-n in
    let is : number_at c.args.line.now l.at ≡ Some c.in-Some.d = sym c.number_at.ensures ∙ c.in-Some.is in
    (search rules, l.invariant.1 ∙ row_more c.args.most l.n l.number c.args.line.now l.at (search rules) c.in-Some.d is (search rules) c.if-line-d-ne32.false)

pub returns : goal.returns
returns c =
    let l = c.loop-n in
    sym (l.invariant.1 ∙ row_full c.args.most l.n l.number c.args.line.now l.at (omega arith))
