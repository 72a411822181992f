use Prim.Native.Nat.{◌^◌}
use mathlib.Core.Path.{◌≡◌}
use Rattle.blocks.proofs.BlockLaws.{Yet}
use Rattle.words.specs.Words.{digits_from, decimal_of}
use Rattle.words.proofs.texts.add_number.Given as goal

abbrev pub invariant-loop-k : goal.invariant-loop-k
invariant-loop-k l = (l.power ≡ 10 ^ l.k) × Yet l.block l.end (digits_from l.seen l.k l.n) l.initial.block l.at (decimal_of l.n)
