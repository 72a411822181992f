use Prim.Native.Nat.{◌-◌}
use mathlib.Core.Path.{◌≡◌}
use lib.ListN.{drop}
use Rattle.message.specs.Rows.{first_parts, options_of}
use Rattle.validity.specs.Parts.{options_ok}
use Rattle.validity.proofs.body.options_ok.Given as goal

abbrev pub invariant-loop-option : goal.invariant-loop-option
invariant-loop-option l =
    options_ok l.air 0 l.fn.parts (options_of l.fn.row) l.v
    ≡ options_ok l.air l.option l.made (first_parts (l.fn.row.options - l.option) (drop l.option l.fn.row.optional)) l.v
