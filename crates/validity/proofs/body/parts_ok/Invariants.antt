use Prim.Native.Nat.{◌-◌}
use mathlib.Core.Path.{◌≡◌}
use lib.ListN.{drop}
use Rattle.message.specs.Rows.{first_parts, parts_of, options_of}
use Rattle.validity.specs.Parts.{parts_ok}
use Rattle.validity.proofs.body.parts_ok.Given as goal

abbrev pub invariant-loop-slot : goal.invariant-loop-slot
invariant-loop-slot l =
    parts_ok l.air l.fn.blank (parts_of l.fn.row) (options_of l.fn.row) l.v
    ≡ parts_ok l.air l.made (first_parts (l.fn.row.count - l.slot-index) (drop l.slot-index l.fn.row.parts)) (options_of l.fn.row) l.v
