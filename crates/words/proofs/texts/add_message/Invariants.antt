use Prim.Native.Nat.{◌-◌}
use Rattle.blocks.proofs.BlockLaws.{Yet}
use Rattle.words.specs.Words.{hex_from, message_hex}
use Rattle.words.proofs.texts.add_message.Given as goal

abbrev pub invariant-loop-i : goal.invariant-loop-i
invariant-loop-i l = Yet l.block l.end (hex_from (l.i-end - l.i) l.area l.i) l.initial.block l.at (message_hex l.area l.k l.bits)
