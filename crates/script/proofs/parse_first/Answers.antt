use Prim.Native.Nat.{ℕ, ◌≤◌}
use mathlib.Core.List.{List}
use mathlib.Core.Path.{sym, ap, ◌∙◌}
use native.Mathlib.Omega.{arith}
use lib.ListN.{length}
use lib.Seq.{take_all, length-take-le}
use borrow.Author.Rules.{rules}
use Rattle.script.specs.Lines.{line_of}
use Rattle.script.proofs.parse_first.Goals as goal

pub returns-then-len-gt1152 : goal.returns-then-len-gt1152
returns-then-len-gt1152 c =
    let a = c.args in
    let past : length a.bytes ≤ a.len = omega arith in
    c.parse.ensures ∙ ap (λ (xs : List ℕ). line_of xs) (sym (take_all a.len a.bytes past))

pub slice_bounds-parse-end : goal.slice_bounds-parse-end
slice_bounds-parse-end c = sym (length-take-le _ _ (search rules))

pub returns : goal.returns
returns c = c.parse-2.ensures
