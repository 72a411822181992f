use Prim.Native.Nat.{◌≤◌}
use mathlib.Core.Path.{◌≡◌}
use Rattle.records.proofs.JudgeLaws.{Passed}
use Rattle.records.specs.Identities.{count_of}
use Rattle.records.proofs.judged_of.Given as goal

abbrev pub invariant-loop-i : goal.invariant-loop-i
invariant-loop-i l = record {
  all : l.n ≡ count_of l.air l.group;
  few : l.n ≤ 64;
  passed : Passed l.to l.air l.group l.lent l.post l.masks l.at l.i;
}
