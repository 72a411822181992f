use Prim.Native.Nat.{◌-◌, ◌+◌, ◌*◌, ◌/◌}
use mathlib.Core.Path.{◌≡◌}
use native.Mathlib.Omega.{arith}
use lib.ListN.{get_or}
use Rattle.std.proofs.lemmas.Grind.{common_steps}
use Rattle.words.proofs.WordLaws.{byte_turn, bytes_over}
use Rattle.words.specs.Words.{message_hex}
use Rattle.words.proofs.texts.add_message.Goals as goal

pub loop-i-init : goal.loop-i-init
unfolding message_hex
loop-i-init c =
    let n = (c.args.bits + 7) / 8 in
    let e : 100 * c.args.k + n - 100 * c.args.k ≡ n = omega arith in rw e (λ t i w. w)

pub loop-i-preserved : goal.loop-i-preserved
loop-i-preserved c =
    let l = c.loop-i in
    let b : c.unwrap_or.result ≡ get_or c.args.area.now l.i 0 = grind (arith, common_steps) in
    λ t i w. l.invariant t i (byte_turn _ _ _ _ _ (omega arith) b c.add_byte-end.ensures t i w)

pub returns : goal.returns
returns c = let l = c.loop-i in l.invariant _ _ (bytes_over _ _ _ _ _ (omega arith))
