use borrow.Author.Rules.{rules}
use Rattle.sending.proofs.SendLaws.{send_done, send_not, send_full, written_small}
use Rattle.sending.proofs.send.Goals as goal

pub more-requires : goal.more-requires
more-requires c = (search rules, written_small _ _ _ _ _ c.write_at.result c.write_at.ensures.0 c.in-Ok.is)

pub returns-in-Ok : goal.returns-in-Ok
returns-in-Ok c = send_done _ _ _ _ c.write_at.result _ c.if-laid-lt3.true c.write_at.ensures _ _ c.in-Ok.is c.more.ensures

pub returns-in_default : goal.returns-in_default
returns-in_default c = send_not _ _ _ _ c.write_at.result _ c.if-laid-lt3.true c.write_at.ensures _ c.in_default.is

pub returns-else-laid-lt3 : goal.returns-else-laid-lt3
returns-else-laid-lt3 c = send_full _ _ _ _ c.if-laid-lt3.false
