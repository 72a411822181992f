use Rattle.std.proofs.Common.{◌≡◌, length, refl, ◌∙◌, rules}
use borrow.Author.Tests.{tests}
use Rattle.std.proofs.lemmas.Iterator.{YieldsList-from_slice}
use Rattle.std.proofs.lemmas.Iterator.Consumers.{YieldsList-from_filter, count_from_yields_List}
use Rattle.sending.specs.Acks.{several_in}
use Rattle.sending.proofs.SendLaws.{count_three}
use Rattle.sending.proofs.is_several.Goals as goal

pub returns : goal.returns
unfolding several_in
returns c =
    let n : length c.args.some ≡ 3 = search (rules, c.well_formed) in
    let k = count_from_yields_List c.filter.result c.count.result c.count.ensures.ran (YieldsList-from_filter _ (λ b. b) (YieldsList-from_slice c.args.some (cc)) c.filter.ensures.closure (λ x b q k. search (rules, tests))) ∙ count_three c.args.some n in
    rw k refl
