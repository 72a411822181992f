use mathlib.Core.Path.{◌∙◌}
use borrow.Author.Rules.{rules}
use borrow.Author.Tests.{tests}
use Rattle.std.proofs.lemmas.Iterator.{YieldsList-from_slice}
use Rattle.std.proofs.lemmas.Iterator.Search.{find_from_yields_List}
use Rattle.records.specs.Records.{is}
use Rattle.records.proofs.RecordLaws.{holder_is}
use Rattle.records.proofs.search.holder.Goals as goal

pub returns : goal.returns
returns c =
    let found = find_from_yields_List (λ r. is r c.args.id) _ _ c.find.result c.find.ensures.ran (YieldsList-from_slice c.args.rows.now cc) (λ x b q k. search (rules, tests)) in
    c.copied.ensures ∙ found ∙ holder_is c.args.rows.now c.args.id
