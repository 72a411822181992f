use Prim.Native.Nat.{◌+◌, ◌*◌}
use mathlib.Core.Path.{◌≡◌}
use lib.ListN.{length, take, get_or}
use Rattle.script.proofs.TableLaws.{firsts}
use Rattle.script.specs.Profiles.{share_of}
use Rattle.script.proofs.profiles.shares_at.Given as goal

abbrev pub invariant-loop-i : goal.invariant-loop-i
invariant-loop-i l = (length l.share ≡ 8) × (take l.i l.share ≡ firsts (λ k. share_of (get_or l.number (l.at + 2 * k) 0) (get_or l.number (l.at + 2 * k + 1) 0)) l.i)
