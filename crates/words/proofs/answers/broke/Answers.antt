use Prim.Native.Nat.{min}
use mathlib.Core.Path.{◌≡◌}
use native.Mathlib.Omega.{arith}
use borrow.Author.Tests.{eq-eqb, ne_eqb}
use Rattle.std.proofs.lemmas.Grind.{common_steps}
use Rattle.blocks.proofs.BlockLaws.{wrote_none, wrote_join}
use Rattle.words.specs.Words.{broke_words}
use Rattle.words.proofs.answers.broke.Goals as goal

pub returns-then-stop-eq4 : goal.returns-then-stop-eq4
unfolding broke_words
returns-then-stop-eq4 c =
    let e : c.unwrap_or-position.result ≡ min c.args.stop.at 4294967295 = grind (arith, common_steps) in
    rw (eq-eqb _ _ c.if-stop-eq4.true) (wrote_join (rw e at c.add_numbered-placed.ensures) (wrote_join c.add-parted.ensures (rw c.element.ensures at c.add.ensures)))

pub returns : goal.returns
unfolding broke_words
returns c = rw (ne_eqb _ _ c.if-stop-eq4.false) (wrote_none _ _)
