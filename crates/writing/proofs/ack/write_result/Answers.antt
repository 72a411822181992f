use Rattle.std.proofs.Common.{rules, eq-eqb, ne_eqb}
use Rattle.codec.specs.Codec.{number}
use Rattle.message.specs.Acks.{result_c}
use Rattle.writing.proofs.WroteLaws.{wrote_none, wrote_join}
use Rattle.writing.proofs.ack.write_result.Goals as goal

pub returns-then-res-eq1 : goal.returns-then-res-eq1
unfolding result_c number
returns-then-res-eq1 c =
    rw (eq-eqb _ _ c.if-res-eq1.true) (wrote_join c.word-p.ensures (wrote_none _ _ (search rules)))

pub returns : goal.returns
unfolding result_c number
returns c = rw (ne_eqb _ _ c.if-res-eq1.false) (wrote_join c.word-p.ensures c.word.ensures)
