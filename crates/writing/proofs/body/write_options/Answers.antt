use Rattle.std.proofs.Common.{◌≡◌, min, refl, ◌∙◌, arith, rules}
use borrow.Author.Tests.{tests}
use Rattle.std.proofs.lemmas.Iterator.{YieldsList-from_range}
use Rattle.std.proofs.lemmas.Iterator.Search.{any_from_yields_List}
use Rattle.message.specs.Values.{given_at}
use Rattle.writing.proofs.RowLaws.{any_given, options_none, options_there, options_absent}
use Rattle.writing.proofs.body.write_options.Goals as goal

pub returns-then-many-eq0 : goal.returns-then-many-eq0
returns-then-many-eq0 c =
    let e : c.min-many.result ≡ min c.args.count 7 = rw c.from.ensures at c.min-many.ensures in
    options_none _ _ _ _ _ _ e (search rules) _ _ c.if-many-eq0.true (search rules)

pub returns-then-any : goal.returns-then-any
returns-then-any c =
    let e : c.min-many.result ≡ min c.args.count 7 = rw c.from.ensures at c.min-many.ensures in
    let some = any_from_yields_List (λ j. given_at j c.args.v) _ _ c.any.result c.any.ensures.ran (YieldsList-from_range 0 _ c.min-many.result refl (omega arith)) (λ x b q k. search (rules, tests)) ∙ any_given 0 _ c.args.v in
    options_there _ _ _ c.args.optional _ _ e (search (rules, c.well_formed)) c.if-many-eq0.false _ some c.if-any.true c.bit-p.ensures c.write_each.ensures

pub returns : goal.returns
returns c =
    let e : c.min-many.result ≡ min c.args.count 7 = rw c.from.ensures at c.min-many.ensures in
    let some = any_from_yields_List (λ j. given_at j c.args.v) _ _ c.any.result c.any.ensures.ran (YieldsList-from_range 0 _ c.min-many.result refl (omega arith)) (λ x b q k. search (rules, tests)) ∙ any_given 0 _ c.args.v in
    options_absent _ _ _ _ _ _ e (search rules) c.if-many-eq0.false _ some c.if-any.false c.bit.ensures
