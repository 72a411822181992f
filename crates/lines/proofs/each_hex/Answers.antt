use Prim.Native.Nat.{ℕ}
use mathlib.Core.Path.{◌≡◌, ap, ◌∙◌}
use native.Mathlib.Omega.{arith}
use Rattle.lines.proofs.HexLaws.{up_to_none, up_to_more}
use Rattle.lines.specs.Parsing.{hex_up_to}
use Rattle.lines.proofs.each_hex.Goals as goal

pub loop-i-init : goal.loop-i-init
loop-i-init c = up_to_none c.args.line.now c.args.from

pub loop-i-preserved : goal.loop-i-preserved
loop-i-preserved c = up_to_more c.args.line.now c.args.from c.loop-i.i _ c.loop-i.good c.loop-i.invariant c.hex_digit.ensures

pub returns : goal.returns
returns c =
    let all : c.loop-i.i ≡ c.args.count = omega arith in
    c.loop-i.invariant ∙ ap (λ (n : ℕ). hex_up_to c.args.line.now c.args.from n) all
