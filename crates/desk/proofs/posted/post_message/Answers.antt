use lib.ListN.{length}
use mathlib.Core.Path.{refl}
use Rattle.std.proofs.lemmas.Result.{err_from_is_err_and}
use Rattle.desk.proofs.PostLaws.{refused_by, message_2, message_unread, message_sent}
use Rattle.writing.proofs.RoundTrips.{read_valid}
use Rattle.desk.proofs.posted.post_message.Goals as goal

pub returns-then-post-desk : goal.returns-then-post-desk
returns-then-post-desk c =
    refused_by _ _ _ _ _ _ _ _ _ _ refl c.refuse.ensures (message_2 _ _ _ _ _ _ _ c.if-post-desk.true)

pub returns-in_err-value : goal.returns-in_err-value
returns-in_err-value c =
    let p = err_from_is_err_and c.from_residual.result c.from_residual.ensures.1 in
    rw (p.1, p.2)
    (refused_by _ _ _ _ _ _ _ _ _ _ refl refl (message_unread _ _ _ _ _ _ _ c.if-post-desk.false _ c.in_err-value.ensures _ refl))

pub sent-requires : goal.sent-requires
sent-requires c = (c.requires, read_valid _ _ _ _ _ c.in_ok-value.ensures refl)

pub returns : goal.returns
returns c =
    let a = c.args in
    message_sent a.desk a.rows a.count _ (length a.out.now) _ _ c.if-post-desk.false _ c.in_ok-value.ensures _ refl a.out.now _ _ c.sent.ensures
