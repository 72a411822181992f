use Rattle.std.proofs.Common.{sym, ◌∙◌, arith}
use Rattle.lines.proofs.HexLaws.{hex_room, hex_is, hex_none}
use Rattle.lines.proofs.ShapeLaws.{hex_end}
use Rattle.lines.specs.Shape.{no_bytes, no_hex, hex_at}
use Rattle.lines.proofs.hex_at.Goals as goal

pub returns-then-from-line : goal.returns-then-from-line
unfolding hex_at no_bytes
returns-then-from-line c = sym (hex_end c.args.line.now no_bytes c.args.from 512 0 (omega arith))

pub returns-then-not-all_hex : goal.returns-then-not-all_hex
unfolding no_hex no_bytes
returns-then-not-all_hex c = sym (hex_none _ _ (sym c.all_hex.ensures ∙ c.if-not-all_hex.true))

pub decode-requires : goal.decode-requires
decode-requires c = omega (arith, hex_room _ _ (sym c.all_hex.ensures ∙ c.if-not-all_hex.false))

pub returns : goal.returns
unfolding no_bytes
returns c = rw c.decode.ensures (sym (hex_is _ _ (omega arith) (sym c.all_hex.ensures ∙ c.if-not-all_hex.false)))
