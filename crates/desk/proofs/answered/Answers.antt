use mathlib.Core.Path.{refl, sym, ◌∙◌}
use Rattle.desk.proofs.PostLaws.{plain_by, refused_by, reject_plain, cancel_plain, setup_plain, desk_passes}
use Rattle.desk.specs.Orders.{answer_of}
use Rattle.desk.specs.Steps.{step_of, area_after}
use Rattle.desk.proofs.answered.Goals as goal

pub returns-then-not-desk_ok : goal.returns-then-not-desk_ok
unfolding step_of area_after answer_of
returns-then-not-desk_ok c =
    rw (sym c.desk_ok.ensures ∙ c.if-not-desk_ok.true)
    (refused_by _ _ _ _ _ _ _ _ _ _ refl c.refuse.ensures refl)

pub post_message-requires : goal.post_message-requires
post_message-requires c = sym c.desk_ok.ensures ∙ c.if-not-desk_ok.false

pub set_up-requires : goal.set_up-requires
set_up-requires c = desk_passes _ _ c.desk_ok.ensures c.if-not-desk_ok.false

pub reject-requires : goal.reject-requires
reject-requires c = desk_passes _ _ c.desk_ok.ensures c.if-not-desk_ok.false

pub cancel-requires : goal.cancel-requires
cancel-requires c = desk_passes _ _ c.desk_ok.ensures c.if-not-desk_ok.false

pub returns-in-Message : goal.returns-in-Message
unfolding step_of area_after answer_of
returns-in-Message c = rw (c.in-Message.is, sym c.desk_ok.ensures ∙ c.if-not-desk_ok.false) c.post_message.ensures

pub returns-in-SetUp : goal.returns-in-SetUp
unfolding step_of area_after answer_of
returns-in-SetUp c =
    rw (c.in-SetUp.is, sym c.desk_ok.ensures ∙ c.if-not-desk_ok.false)
    (plain_by _ _ _ _ _ _ _ _ _ (setup_plain _ _ _ _ _ _ _ _) c.set_up.ensures)

pub returns-in-Reject : goal.returns-in-Reject
unfolding step_of area_after answer_of
returns-in-Reject c =
    rw (c.in-Reject.is, sym c.desk_ok.ensures ∙ c.if-not-desk_ok.false)
    (plain_by _ _ _ _ _ _ _ _ _ (reject_plain _ _ _ _) c.reject.ensures)

pub returns-in-Cancel : goal.returns-in-Cancel
unfolding step_of area_after answer_of
returns-in-Cancel c =
    rw (c.in-Cancel.is, sym c.desk_ok.ensures ∙ c.if-not-desk_ok.false)
    (plain_by _ _ _ _ _ _ _ _ _ (cancel_plain _ _ _) c.cancel.ensures)
