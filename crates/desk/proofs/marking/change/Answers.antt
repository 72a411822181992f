use mathlib.Core.Path.{refl, sym, ◌∙◌}
use Rattle.desk.proofs.MarkingLaws.{marking_14, marking_15, marking_21, marking_acks, asked_good}
use Rattle.desk.proofs.PostLaws.{acks_by, refused_by}
use Rattle.desk.proofs.marking.change.Goals as goal

pub returns-then-out-lt300 : goal.returns-then-out-lt300
returns-then-out-lt300 c =
    refused_by _ _ _ _ _ _ _ _ _ _ refl c.refuse.ensures (marking_14 _ _ _ _ _ c.if-out-lt300.true)

pub returns-then-not-sound : goal.returns-then-not-sound
returns-then-not-sound c =
    refused_by _ _ _ _ _ _ _ _ _ _ refl c.refuse-then-not-sound.ensures
    (marking_15 _ _ _ _ _ c.if-out-lt300.false (sym c.records_ok-sound.ensures ∙ c.if-not-sound.true))

pub returns-then-given : goal.returns-then-given
returns-then-given c =
    refused_by _ _ _ _ _ _ _ _ _ _ refl c.refuse-then-given.ensures
    (marking_21 _ _ _ _ _ c.if-out-lt300.false (sym c.records_ok-sound.ensures ∙ c.if-not-sound.false) c.if-given.true)

pub acks-requires : goal.acks-requires
acks-requires c =
    let k = asked_good _ c.args.value _ c.asked_in.ensures c.requires.1 in
    (c.requires.0, (k.0, (k.1, c.if-out-lt300.false)))

pub returns : goal.returns
returns c =
    acks_by _ _ _ _ _ _ _ _ _
    (marking_acks _ _ _ _ _ c.if-out-lt300.false (sym c.records_ok-sound.ensures ∙ c.if-not-sound.false) c.if-given.false)
    (rw c.asked_in.ensures at c.acks.ensures)
