use Prim.Native.Nat.{◌+◌, ◌-◌}
use mathlib.Core.Path.{◌≡◌, sym, ◌∙◌}
use native.Mathlib.Omega.{arith}
use borrow.Author.Rules.{rules}
use lib.ListN.{length, drop, take}
use Rattle.std.specs.Option.{option_map_or}
use Rattle.blocks.specs.Blocks.{line_end}
use Rattle.blocks.proofs.BlockLaws.{rest_of, at_end, first_lf, line_end_most}
use Rattle.blocks.proofs.line_end.Goals as goal

pub returns-then-from-block : goal.returns-then-from-block
returns-then-from-block c = (sym (at_end _ _ (omega arith)), omega arith)

pub loop-i-preserved : goal.loop-i-preserved
loop-i-preserved c = record {
  same = c.loop-i.invariant.same ∙ c.has_lf.ensures c.if-not-has_lf.true;
  past = omega arith;
  inside = omega arith;
}

pub returns : goal.returns
returns c =
    let l = c.args.block.now in
    let i = c.loop-i.i in
    let t : take (length l - i) (drop i l) ≡ drop i l = rest_of l i in
    let m : c.map_or.result ≡ option_map_or (λ n. i + n) c.next_lf.result (length l) = search rules in
    let e : c.map_or.result ≡ line_end l i = m ∙ rw (c.next_lf.ensures, t) (first_lf l i (omega arith)) in
    (e ∙ sym c.loop-i.invariant.same, omega (arith, e, line_end_most l i (omega arith)))
