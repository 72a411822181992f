use Rattle.std.proofs.Common.{◌≡◌, length, drop}
use Rattle.layouts.proofs.ByteLaws.{rows_left}
use Rattle.layouts.specs.Bytes.{rows_from}
use Rattle.layouts.specs.Profiles.{share_from}
use Rattle.console.proofs.profiles.shares_from.Given as goal

abbrev pub invariant-loop-p : goal.invariant-loop-p
invariant-loop-p l = (length l.share ≡ 8) × (rows_from share_from 2 8 (drop 23 l.l) ≡ rows_left share_from 2 8 23 l.l l.share l.p)
