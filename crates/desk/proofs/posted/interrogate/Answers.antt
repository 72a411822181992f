use Prim.Native.Nat.{ℕ, ◌<◌}
use mathlib.Core.Bool.{true, false}
use mathlib.Core.Path.{refl, ◌≡◌, sym, ◌∙◌, subst}
use Rattle.desk.proofs.KeepLaws.{refused_plain, state_plain}
use Rattle.desk.proofs.NoticeLaws.{state_sends}
use Rattle.desk.proofs.PostLaws.{interrogate_14, interrogate_15, interrogate_26, interrogate_state}
use Rattle.message.specs.Addresses.{address_c}
use Rattle.sending.proofs.SentLaws.{one_sent}
use Rattle.desk.proofs.posted.interrogate.Goals as goal

pub returns-then-out-lt300 : goal.returns-then-out-lt300
returns-then-out-lt300 c =
    refused_plain _ _ _ _ _ _ _ refl c.refuse.ensures (interrogate_14 _ _ _ _ _ _ c.if-out-lt300.true)

pub returns-then-not-sound : goal.returns-then-not-sound
returns-then-not-sound c =
    refused_plain _ _ _ _ _ _ _ refl c.refuse-then-not-sound.ensures (interrogate_15 _ _ _ _ _ _ c.if-out-lt300.false (sym c.records_ok-sound.ensures ∙ c.if-not-sound.true))

pub returns-then-one-ge16 : goal.returns-then-one-ge16
returns-then-one-ge16 c =
    refused_plain _ _ _ _ _ _ _ refl c.refuse-then-one-ge16.ensures (interrogate_26 _ _ _ _ _ _ c.if-out-lt300.false (sym c.records_ok-sound.ensures ∙ c.if-not-sound.false) _ c.list_of_one-one.ensures c.if-one-ge16.true)

pub returns : goal.returns
returns c =
    let u = c.address_at-user.ensures in
    let has = subst (λ (x : ℕ). x < 16) c.list_of_one-one.ensures c.if-one-ge16.false in
    let good = subst (λ x. (address_c false).ok x ≡ true) (sym u) c.requires.1 in
    state_plain _ _ _ _ _ _ _ _
    (interrogate_state _ _ _ _ _ _ c.if-out-lt300.false (sym c.records_ok-sound.ensures ∙ c.if-not-sound.false) _ c.list_of_one-one.ensures _ c.if-one-ge16.false (rw u at c.state_of-state.ensures))
    (rw u at (one_sent _ c.requires.0 _ _ _ _ _ _ (state_sends _ c.requires.0 has _ good _) c.if-out-lt300.false c.no_laid.ensures c.state_ack-ack.ensures c.send-laid.ensures))
    c.no_marks.ensures
