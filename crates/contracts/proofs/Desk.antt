-- What the contracts of `desk` decide: any two outcomes that one allows are equal. Assumes nothing.
use mathlib.Core.Path.{refl}
use Rattle.desk.specs.contracts.Desk.open as opened
use Rattle.desk.proofs.Desk.open.Reads as opened-reads
use Rattle.desk.specs.contracts.step as step
use Rattle.desk.proofs.step.Reads as step-reads
use Rattle.desk.specs.contracts.change_shares as change-shares
use Rattle.desk.proofs.change_shares.Reads as change-shares-reads
use Rattle.contracts.specs.Outcomes.{Decides}
use Rattle.contracts.proofs.Law.{same_answer, same_both}

pub decides_open : Decides opened.ended (λ M 𝓤. opened.spec)
decides_open = record { says = opened-reads.Learnt; is = refl; one = λ κs a x y v w. same_answer }

pub decides_step : Decides step.ended (λ M 𝓤. step.spec)
decides_step = record { says = step-reads.Learnt; is = refl; one = λ κs a x y v w. same_both (λ l. (_, (_, (_, (_, (l, _)))))) }

pub decides_change_shares : Decides change-shares.ended (λ M 𝓤. change-shares.spec)
decides_change_shares = record { says = change-shares-reads.Learnt; is = refl; one = λ κs a x y v w. same_answer }
