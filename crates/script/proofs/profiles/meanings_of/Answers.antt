use Prim.Native.Nat.{◌+◌}
use mathlib.Core.Path.{◌≡◌, refl, sym, ◌∙◌}
use native.Mathlib.Omega.{arith}
use lib.ListN.{take, get_or}
use lib.Seq.{take_all}
use borrow.Author.Rules.{rules}
use Rattle.script.proofs.TableLaws.{firsts, fill_turn}
use Rattle.script.specs.Profiles.{meaning_by, meanings_of}
use Rattle.script.proofs.profiles.meanings_of.Goals as goal

pub loop-i-init : goal.loop-i-init
unfolding firsts
loop-i-init c = (refl, refl)

pub loop-i-preserved : goal.loop-i-preserved
loop-i-preserved c =
    let l = c.loop-i in
    (search rules, fill_turn (λ k. meaning_by (get_or c.args.number (4 + k) 0)) l.meanings l.i _ (omega arith) l.invariant.1 c.meaning_of.ensures)

pub returns : goal.returns
unfolding meanings_of firsts
returns c =
    let l = c.loop-i in
    let done : l.i ≡ 16 = omega arith in
    let all : take 16 l.meanings ≡ firsts (λ k. meaning_by (get_or c.args.number (4 + k) 0)) 16 = rw done at l.invariant.1 in
    sym (take_all 16 l.meanings (omega arith)) ∙ all
