use mathlib.Core.Path.{◌∙◌}
use borrow.Author.Rules.{rules}
use borrow.Author.Tests.{tests}
use Rattle.std.proofs.lemmas.Iterator.{YieldsList-from_slice}
use Rattle.std.proofs.lemmas.Iterator.Adapters.{position_from-zero}
use Rattle.std.proofs.lemmas.Iterator.Search.{position_from_yields_List}
use Rattle.records.specs.Records.{is}
use Rattle.records.proofs.RecordLaws.{record_is}
use Rattle.records.proofs.search.record_of.Goals as goal

pub returns : goal.returns
returns c =
    position_from_yields_List (λ r. is r c.args.id) _ _ _ c.position.ensures.ran (YieldsList-from_slice c.args.rows.now cc) (λ x b q k. search (rules, tests))
    ∙ position_from-zero (λ r. is r c.args.id) c.args.rows.now ∙ record_is c.args.rows.now c.args.id
