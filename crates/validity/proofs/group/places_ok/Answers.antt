use mathlib.Core.Path.{sym, ◌∙◌}
use mathlib.Core.Bool.{false}
use borrow.Author.Rules.{rules}
use borrow.Author.Tests.{tests}
use lib.ListN.{take, drop}
use Rattle.std.proofs.lemmas.Iterator.{YieldsList-from_slice}
use Rattle.std.proofs.lemmas.Iterator.Search.{all_from_yields_List}
use Rattle.message.specs.Addresses.{is_nobody, address_c}
use Rattle.message.specs.Groups.{places_c}
use Rattle.validity.proofs.ValidLaws.{all_beyond, places_then, places_else}
use Rattle.validity.proofs.group.places_ok.Goals as goal

pub returns-then-all : goal.returns-then-all
unfolding places_c
returns-then-all c =
    let rest = all_from_yields_List is_nobody _ _ c.all.result c.all.ensures.ran (YieldsList-from_slice (drop c.args.count c.args.list) (c.iter.ensures.rest ∙ all_beyond c.args.list c.args.count (search rules))) (λ x b q k. search (rules, tests)) in
    let first = all_from_yields_List (λ a. (address_c false).ok a) _ _ c.all-then-all.result c.all-then-all.ensures.ran (YieldsList-from_slice (take c.args.count c.args.list) c.iter-then-all.ensures.rest) (λ x b q k. search (rules, tests)) in
    first ∙ places_then is_nobody (address_c false) c.args.list c.args.count (search rules) c.requires (sym rest ∙ c.if-all.true)

pub returns-else-all : goal.returns-else-all
unfolding places_c
returns-else-all c =
    let rest = all_from_yields_List is_nobody _ _ c.all.result c.all.ensures.ran (YieldsList-from_slice (drop c.args.count c.args.list) (c.iter.ensures.rest ∙ all_beyond c.args.list c.args.count (search rules))) (λ x b q k. search (rules, tests)) in
    c.if-all.false ∙ places_else is_nobody (address_c false) c.args.list c.args.count (search rules) c.requires (sym rest ∙ c.if-all.false)
