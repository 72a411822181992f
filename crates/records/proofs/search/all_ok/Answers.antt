use mathlib.Core.Path.{◌∙◌}
use borrow.Author.Rules.{rules}
use borrow.Author.Tests.{tests}
use Rattle.std.proofs.lemmas.Iterator.{YieldsList-from_slice}
use Rattle.std.proofs.lemmas.Iterator.Search.{all_from_yields_List}
use Rattle.records.specs.Records.{record_ok}
use Rattle.records.proofs.RecordLaws.{all_is}
use Rattle.records.proofs.search.all_ok.Goals as goal

pub returns : goal.returns
returns c =
    all_from_yields_List (record_ok c.args.posts) _ _ _ c.all.ensures.ran (YieldsList-from_slice c.args.rows.now cc) (λ x b q k. search (rules, tests))
    ∙ all_is c.args.posts c.args.rows.now
