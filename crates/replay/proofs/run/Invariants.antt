use Prim.Native.Nat.{◌*◌, ◌≤◌}
use Rattle.replay.proofs.run.Given as goal

abbrev pub invariant-loop-turn : goal.invariant-loop-turn
invariant-loop-turn l = l.seen.number ≤ l._turn * 65536
