use Prim.Native.Nat.{ℕ, ◌+◌}
use mathlib.Core.Path.{◌≡◌, sym, ap, ◌∙◌}
use native.Mathlib.Nat.{add-zero}
use native.Mathlib.Omega.{arith}
use Rattle.blocks.proofs.BlockLaws.{past_bytes}
use Rattle.blocks.specs.Blocks.{line_end}
use Rattle.blocks.proofs.has_lf.Goals as goal

pub loop-j-init : goal.loop-j-init
loop-j-init c = λ e. ap (λ (n : ℕ). line_end c.args.block.now n) (sym (add-zero c.args.from))

pub loop-j-preserved : goal.loop-j-preserved
loop-j-preserved c = past_bytes c.args.block.now c.args.from c.loop-j.j c.loop-j.seen c.loop-j.invariant (omega arith)

pub returns : goal.returns
returns c =
    let all : c.loop-j.j ≡ 16 = omega arith in
    λ e. c.loop-j.invariant e ∙ ap (λ (n : ℕ). line_end c.args.block.now (c.args.from + n)) all
