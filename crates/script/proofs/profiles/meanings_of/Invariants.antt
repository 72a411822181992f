use Prim.Native.Nat.{◌+◌}
use mathlib.Core.Path.{◌≡◌}
use lib.ListN.{length, take, get_or}
use Rattle.script.proofs.TableLaws.{firsts}
use Rattle.script.specs.Profiles.{meaning_by}
use Rattle.script.proofs.profiles.meanings_of.Given as goal

abbrev pub invariant-loop-i : goal.invariant-loop-i
invariant-loop-i l = (length l.meanings ≡ 16) × (take l.i l.meanings ≡ firsts (λ k. meaning_by (get_or l.number (4 + k) 0)) l.i)
