use Prim.Native.Nat.{ℕ}
use mathlib.Core.Path.{◌≡◌, refl, ap, ◌∙◌}
use native.Mathlib.Omega.{arith}
use Rattle.lines.proofs.HexLaws.{pairs_more}
use Rattle.lines.specs.Parsing.{pairs_in}
use Rattle.lines.proofs.decode.Goals as goal

pub loop-k-init : goal.loop-k-init
unfolding pairs_in
loop-k-init c = refl

pub loop-k-preserved : goal.loop-k-preserved
loop-k-preserved c = pairs_more _ _ c.args.line.now c.args.from c.loop-k.k _ _ c.loop-k.invariant c.hex_digit-x.ensures c.hex_digit-y.ensures

pub returns : goal.returns
returns c =
    let all : c.loop-k.k ≡ c.args.count = omega arith in
    c.loop-k.invariant ∙ ap (λ (n : ℕ). pairs_in c.args.room.now c.args.line.now c.args.from n) all
