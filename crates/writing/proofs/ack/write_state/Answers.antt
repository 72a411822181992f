use Rattle.writing.proofs.PartLaws.{state_bits}
use Rattle.writing.proofs.WroteLaws.{wrote_join}
use Rattle.writing.proofs.ack.write_state.Goals as goal

pub returns : goal.returns
returns c =
    rw (state_bits _) (wrote_join c.word-p1.ensures (wrote_join c.write_why_not-p2.ensures (wrote_join c.write_if_accepted-p3.ensures (wrote_join c.write_if_accepted-p4.ensures (wrote_join c.write_if_accepted-p5.ensures c.write_if_accepted.ensures)))))
