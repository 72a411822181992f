use mathlib.Core.Path.{refl, sym, ◌∙◌}
use native.Mathlib.Omega.{arith}
use lib.ListN.{get_or}
use borrow.Author.Rules.{rules}
use Rattle.lines.proofs.ShapeLaws.{digit_worth, hex_most, digits_lt}
use Rattle.script.proofs.ShapeLaws.{number_few, number_end, number_stop, number_many, number_more}
use Rattle.script.specs.Shape.{number_at}
use Rattle.script.proofs.shape.number_at.Goals as goal

pub loop-i-init : goal.loop-i-init
unfolding number_at
loop-i-init c = (search rules, (search rules, refl))

pub returns-then-not-is_digit : goal.returns-then-not-is_digit
returns-then-not-is_digit c =
    c.number_if.ensures ∙ sym (c.loop-i.invariant.1.1 ∙ number_stop _ _ _ _ (search rules) (sym c.is_digit.ensures ∙ c.if-not-is_digit.true))

pub returns-then-seen-ge10 : goal.returns-then-seen-ge10
returns-then-seen-ge10 c =
    sym (c.loop-i.invariant.1.1 ∙ number_many _ _ _ _ (search rules) (sym c.is_digit.ensures ∙ c.if-not-is_digit.false) (search rules))

pub overflow_mul-value : goal.overflow_mul-value
overflow_mul-value c = omega (arith, number_few _ _ c.loop-i.invariant.1.0 (search rules))

pub overflow_cast-value : goal.overflow_cast-value
overflow_cast-value c = omega (arith, hex_most (get_or c.args.line.now c.loop-i.i 0), c.hex_digit.ensures)

pub overflow_add-value : goal.overflow_add-value
overflow_add-value c =
    omega (arith, number_few _ _ c.loop-i.invariant.1.0 (search rules), hex_most (get_or c.args.line.now c.loop-i.i 0), c.hex_digit.ensures)

pub loop-i-preserved : goal.loop-i-preserved
loop-i-preserved c =
    let e = sym c.is_digit.ensures ∙ c.if-not-is_digit.false in (
      search rules,
      (
        rw c.hex_digit.ensures (digits_lt _ _ _ c.loop-i.invariant.1.0 (digit_worth _ e)),
        c.loop-i.invariant.1.1 ∙ rw c.hex_digit.ensures (number_more _ _ _ _ (search rules) e (search rules)),
      ),
    )

pub returns : goal.returns
returns c = c.number_if-2.ensures ∙ sym (c.loop-i.invariant.1.1 ∙ number_end _ _ _ _ (search rules))
