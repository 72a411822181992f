use Rattle.std.proofs.Common.{arith, ◌∙◌}
use Rattle.console.proofs.LayLaws.{copied_all, copied_front}
use Rattle.console.proofs.values.put_area.Goals as goal

pub copy_bytes-requires : goal.copy_bytes-requires
copy_bytes-requires c = (c.requires.0, omega arith)

pub returns-then-byte_at-eq9 : goal.returns-then-byte_at-eq9
returns-then-byte_at-eq9 c = copied_all c.args.out.now _ c.args.area.now (omega arith) c.copy_bytes.ensures.0

pub copy_bytes-requires-2 : goal.copy_bytes-requires-2
copy_bytes-requires-2 c = (omega (arith, c.requires.0), omega arith)

pub returns : goal.returns
returns c =
    copied_front c.args.out.now _ _ c.args.area.now (omega arith) (c.requires.1 (λ e. c.if-byte_at-eq9.false (c.byte_at.ensures ∙ e))) c.copy_bytes-2.ensures.0 c.zero_run.ensures
