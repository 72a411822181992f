use Prim.Native.Nat.{suc, ◌-◌}
use mathlib.Core.Path.{◌≡◌, refl}
use native.Mathlib.Omega.{arith}
use Rattle.blocks.proofs.BlockLaws.{wrote_none}
use Rattle.words.proofs.WordLaws.{power_some, power_less, digit_turn, digits_over}
use Rattle.words.specs.Words.{digit_if, decimal_of}
use Rattle.words.proofs.texts.add_number.Goals as goal

pub loop-k-init : goal.loop-k-init
unfolding decimal_of
loop-k-init c = (refl, λ t i w. w)

pub nonzero_div-digit : goal.nonzero_div-digit
nonzero_div-digit c =
    let l = c.loop-k in power_some (l.k - 1) _ (power_less l.k (l.k - 1) _ (omega arith) l.invariant.0)

pub loop-k-preserved-then-seen : goal.loop-k-preserved-then-seen
unfolding digit_if
loop-k-preserved-then-seen c =
    let l = c.loop-k in
    let one : l.k ≡ suc (l.k - 1) = omega arith in
    let p = power_less l.k (l.k - 1) l.power one l.invariant.0 in
    (p, λ t i w. l.invariant.1 t i (digit_turn _ _ _ _ _ _ one p c.is_shown-seen.ensures (rw c.if-seen.true c.add-end.ensures) t i w))

pub loop-k-preserved : goal.loop-k-preserved
unfolding digit_if
loop-k-preserved c =
    let l = c.loop-k in
    let one : l.k ≡ suc (l.k - 1) = omega arith in
    let p = power_less l.k (l.k - 1) l.power one l.invariant.0 in
    (p, λ t i w. l.invariant.1 t i (digit_turn _ _ _ _ _ _ one p c.is_shown-seen.ensures (rw c.if-seen.false (wrote_none _ _)) t i w))

pub returns : goal.returns
returns c = let l = c.loop-k in l.invariant.1 _ _ (digits_over _ _ _ _ _ (omega arith))
