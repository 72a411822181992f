use Prim.Native.Nat.{◌+◌, ◌*◌}
use mathlib.Core.Path.{◌≡◌, refl, sym, ap, ◌∙◌}
use native.Mathlib.Omega.{arith}
use mathlib.Core.List.{List}
use Rattle.profile.specs.declared.Share.{Share}
use lib.ListN.{take, get_or}
use lib.Seq.{take_all}
use borrow.Author.Rules.{rules}
use Rattle.script.proofs.TableLaws.{firsts, fill_turn, pairs_same}
use Rattle.script.specs.Profiles.{share_of, shares_at}
use Rattle.script.proofs.profiles.shares_at.Goals as goal

pub loop-i-init : goal.loop-i-init
unfolding firsts
loop-i-init c = (refl, refl)

pub loop-i-preserved : goal.loop-i-preserved
loop-i-preserved c =
    let l = c.loop-i in
    (search rules, fill_turn (λ k. share_of (get_or c.args.number (c.args.at + 2 * k) 0) (get_or c.args.number (c.args.at + 2 * k + 1) 0)) l.share l.i _ (omega arith) l.invariant.1 c.share_of.ensures)

pub returns : goal.returns
unfolding shares_at
returns c =
    let l = c.loop-i in
    let done : l.i ≡ 8 = omega arith in
    let all : take 8 l.share ≡ firsts (λ k. share_of (get_or c.args.number (c.args.at + 2 * k) 0) (get_or c.args.number (c.args.at + 2 * k + 1) 0)) 8 = rw done at l.invariant.1 in
    ap (λ (rows : List Share). record { posts = c.args.posts; share = rows }) (sym (take_all 8 l.share (omega arith)) ∙ all ∙ pairs_same c.args.number c.args.at)
