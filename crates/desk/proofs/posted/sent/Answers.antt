use Prim.Native.Nat.{ℕ, ◌^◌, ◌<◌}
use mathlib.Core.Logic.{inl, inr}
use mathlib.Core.Path.{◌≡◌, refl, sym, ap, subst}
use lib.Dec.{eqb}
use borrow.Author.Tests.{ne_eqb}
use native.Mathlib.Omega.{arith}
use Rattle.desk.proofs.EndLaws.{accept_plain}
use Rattle.desk.proofs.MarkingLaws.{marking_users}
use Rattle.desk.proofs.NoticeLaws.{reject_cause, asked_user}
use Rattle.desk.proofs.PostLaws.{plain_by, refused_by, decide_plain, interrogate_plain, rejected_said, desk_profile}
use Rattle.desk.specs.Orders.{sent_answer}
use Rattle.desk.proofs.posted.sent.Goals as goal

-- whether the type is j
asks : {t k : ℕ} (j : ℕ) → t ≡ k → eqb t j ≡ eqb k j
asks j e = ap (λ (x : ℕ). eqb x j) e

pub change-requires : goal.change-requires
change-requires c = (desk_profile _ c.requires.0, marking_users _ _ c.requires.1 (inl c.in-2.is))

pub returns-in-2 : goal.returns-in-2
unfolding sent_answer
returns-in-2 c = rw (asks 2 c.in-2.is) (rw c.names_dispatchers-given.ensures at c.change.ensures)

pub change-requires-in-4 : goal.change-requires-in-4
change-requires-in-4 c = (desk_profile _ c.requires.0, marking_users _ _ c.requires.1 (inr c.in-4.is))

pub returns-in-4 : goal.returns-in-4
unfolding sent_answer
returns-in-4 c = rw (asks 2 c.in-4.is, asks 4 c.in-4.is) c.change-in-4.ensures

pub interrogate-requires : goal.interrogate-requires
interrogate-requires c = (desk_profile _ c.requires.0, asked_user _ _ c.requires.1 c.in-8.is)

pub returns-in-8 : goal.returns-in-8
unfolding sent_answer
returns-in-8 c = rw (asks 2 c.in-8.is, asks 4 c.in-8.is, asks 8 c.in-8.is) (plain_by _ _ _ _ _ _ _ _ _ (interrogate_plain _ _ _ _ _ _) c.interrogate.ensures)

pub accept-requires : goal.accept-requires
accept-requires c = c.requires.0

pub returns-in-12 : goal.returns-in-12
unfolding sent_answer
returns-in-12 c = rw (asks 2 c.in-12.is, asks 4 c.in-12.is, asks 8 c.in-12.is, asks 12 c.in-12.is) (plain_by _ _ _ _ _ _ _ _ _ (decide_plain _ _ _ _ _ (accept_plain _ _)) c.accept.ensures)

pub divert-requires : goal.divert-requires
divert-requires c = desk_profile _ c.requires.0

pub returns-in-15 : goal.returns-in-15
unfolding sent_answer
returns-in-15 c = rw (asks 2 c.in-15.is, asks 4 c.in-15.is, asks 8 c.in-15.is, asks 12 c.in-15.is, asks 15 c.in-15.is) (plain_by _ _ _ _ _ _ _ _ _ (decide_plain _ _ _ _ _ refl) c.divert.ensures)

pub rejected-requires : goal.rejected-requires
rejected-requires c =
    (desk_profile _ c.requires.0, subst (λ (x : ℕ). x < 2 ^ 5) (sym c.number_at-in-17.ensures) (reject_cause _ _ c.requires.1 c.in-17.is))

pub returns-in-17 : goal.returns-in-17
unfolding sent_answer
returns-in-17 c =
    rw (asks 2 c.in-17.is, asks 4 c.in-17.is, asks 8 c.in-17.is, asks 12 c.in-17.is, asks 15 c.in-17.is, asks 17 c.in-17.is)
    (plain_by _ _ _ _ _ _ _ _ _ (decide_plain _ _ _ _ _ refl)
    (rejected_said _ _ _ _ _ _ _ _ _ _ (rw (c.number_at.ensures, c.number_at-in-17.ensures) at c.rejected.ensures)))

pub returns-in_default : goal.returns-in_default
unfolding sent_answer
returns-in_default c =
    rw (ne_eqb c.args.value.pdu 2 (λ e. omega arith), ne_eqb c.args.value.pdu 4 (λ e. omega arith), ne_eqb c.args.value.pdu 8 (λ e. omega arith), ne_eqb c.args.value.pdu 12 (λ e. omega arith), ne_eqb c.args.value.pdu 15 (λ e. omega arith), ne_eqb c.args.value.pdu 17 (λ e. omega arith))
    (refused_by _ _ _ _ _ _ _ _ _ _ refl c.refuse.ensures refl)
