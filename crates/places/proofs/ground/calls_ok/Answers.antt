-- `ground::calls_ok` meets its contract: what a test of all in the list finds, said of its numbers.
use Rattle.std.proofs.Common.{◌≡◌, ◌∙◌, rules, tests}
use Rattle.std.specs.List.{list_all}
use Rattle.std.proofs.lemmas.Iterator.{YieldsList-from_slice}
use Rattle.std.proofs.lemmas.Iterator.Search.{all_from_yields_List}
use Rattle.places.specs.Grounds.{call_ok}
use Rattle.places.specs.declared.Place.{Place}
use Rattle.places.proofs.ListLaws.{all_calls}
use Rattle.places.proofs.ground.calls_ok.Goals as goal

pub returns : goal.returns
returns c =
    let found : c.all.result ≡ list_all (λ (p : Place). call_ok c.args.posts p) c.args.list =
    all_from_yields_List (λ (p : Place). call_ok c.args.posts p) _ _ c.all.result c.all.ensures.ran (YieldsList-from_slice c.args.list cc) (λ x b q k. search (rules, tests)) in
    found ∙ all_calls c.args.posts c.args.list (search rules)
