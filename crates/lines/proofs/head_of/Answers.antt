use mathlib.Core.Path.{refl, sym, ◌∙◌}
use native.Mathlib.Omega.{arith}
use lib.ListN.{get_or}
use Rattle.lines.proofs.ShapeLaws.{digit_worth, hex_most, digits_lt, digits_few, digits_end, digits_stop, digits_more, digits_many, heads_none, heads_as}
use Rattle.lines.specs.Shape.{line_of}
use Rattle.lines.proofs.head_of.Goals as goal

pub loop-i-init : goal.loop-i-init
unfolding line_of
loop-i-init c = record { few = omega arith; small = omega arith; same = refl }

pub returns-then-not-is_digit : goal.returns-then-not-is_digit
returns-then-not-is_digit c =
    heads_as _ _ c.after_digits.ensures (sym (c.loop-i.invariant.same ∙ digits_stop _ _ _ (omega arith) (sym c.is_digit.ensures ∙ c.if-not-is_digit.true)))

pub returns-then-i-ge4 : goal.returns-then-i-ge4
returns-then-i-ge4 c =
    heads_as _ _ (heads_none _)
    (sym (c.loop-i.invariant.same ∙ digits_many _ _ _ (omega arith) (sym c.is_digit.ensures ∙ c.if-not-is_digit.false) (omega arith)))

pub overflow_mul-bits : goal.overflow_mul-bits
overflow_mul-bits c = omega (arith, digits_few _ _ c.loop-i.invariant.small (omega arith))

pub overflow_add-bits : goal.overflow_add-bits
overflow_add-bits c =
    omega (arith, digits_few _ _ c.loop-i.invariant.small (omega arith), hex_most (get_or c.args.line.now c.loop-i.i 0), c.hex_digit.ensures)

pub loop-i-preserved : goal.loop-i-preserved
loop-i-preserved c =
    let e = sym c.is_digit.ensures ∙ c.if-not-is_digit.false in
    record {
      few = omega arith;
      small = rw (c.from.ensures, c.hex_digit.ensures) (digits_lt _ _ _ c.loop-i.invariant.small (digit_worth _ e));
      same = c.loop-i.invariant.same ∙ rw (c.from.ensures, c.hex_digit.ensures) (digits_more _ _ _ (omega arith) e (omega arith));
    }

pub returns : goal.returns
returns c = heads_as _ _ (heads_none _) (sym (c.loop-i.invariant.same ∙ digits_end _ _ _ (omega arith)))
