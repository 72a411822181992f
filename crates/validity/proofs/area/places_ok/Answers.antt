use mathlib.Core.Path.{sym, ◌∙◌}
use borrow.Author.Rules.{rules}
use borrow.Author.Tests.{tests}
use lib.ListN.{take, drop}
use Rattle.std.proofs.lemmas.Iterator.{YieldsList-from_slice}
use Rattle.std.proofs.lemmas.Iterator.Search.{all_from_yields_List}
use Rattle.codec.specs.Codec.{number}
use Rattle.message.specs.Addresses.{is_zero}
use Rattle.message.specs.Areas.{area_places_c, area_c}
use Rattle.validity.proofs.ValidLaws.{all_beyond, places_then, places_else}
use Rattle.validity.proofs.area.places_ok.Goals as goal

pub returns-then-all : goal.returns-then-all
unfolding area_places_c number
returns-then-all c =
    let rest = all_from_yields_List is_zero _ _ c.all.result c.all.ensures.ran (YieldsList-from_slice (drop c.args.count c.args.list) (c.iter.ensures.rest ∙ all_beyond c.args.list c.args.count (search rules))) (λ x b q k. search (rules, tests)) in
    let first = all_from_yields_List (λ a. area_c.ok a) _ _ c.all-then-all.result c.all-then-all.ensures.ran (YieldsList-from_slice (take c.args.count c.args.list) c.iter-then-all.ensures.rest) (λ x b q k. search (rules, tests)) in
    first ∙ places_then is_zero area_c c.args.list c.args.count (search rules) c.requires (sym rest ∙ c.if-all.true)

pub returns-else-all : goal.returns-else-all
unfolding area_places_c number
returns-else-all c =
    let rest = all_from_yields_List is_zero _ _ c.all.result c.all.ensures.ran (YieldsList-from_slice (drop c.args.count c.args.list) (c.iter.ensures.rest ∙ all_beyond c.args.list c.args.count (search rules))) (λ x b q k. search (rules, tests)) in
    c.if-all.false ∙ places_else is_zero area_c c.args.list c.args.count (search rules) c.requires (sym rest ∙ c.if-all.false)
