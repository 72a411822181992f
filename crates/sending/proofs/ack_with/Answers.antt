use Rattle.sending.specs.Acks.{ack_v}
use Rattle.sending.proofs.ack_with.Goals as goal

pub returns : goal.returns
unfolding ack_v
returns c =
    rw (c.with_result.ensures, c.with_mask.ensures, c.with_users-request.ensures, c.blank.ensures, c.from.ensures, c.from-2.ensures)
