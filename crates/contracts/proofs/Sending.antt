-- What the contracts of `sending` decide: any two outcomes that one allows are equal. Assumes nothing.
use mathlib.Core.Path.{refl}
use Rattle.sending.specs.contracts.no_laid as no-laid
use Rattle.sending.proofs.no_laid.Reads as no-laid-reads
use Rattle.sending.specs.contracts.send as send
use Rattle.sending.proofs.send.Reads as send-reads
use Rattle.sending.specs.contracts.send_acks as send-acks
use Rattle.sending.proofs.send_acks.Reads as send-acks-reads
use Rattle.contracts.specs.Outcomes.{Decides}
use Rattle.contracts.proofs.Law.{same_answer, same_both}

pub decides_no_laid : Decides no-laid.ended (λ M 𝓤. no-laid.spec)
decides_no_laid = record { says = no-laid-reads.Learnt; is = refl; one = λ κs a x y v w. same_answer }

pub decides_send : Decides send.ended (λ M 𝓤. send.spec)
decides_send = record { says = send-reads.Learnt; is = refl; one = λ κs a x y v w. same_both (λ l. (_, (_, (_, (l, _))))) }

pub decides_send_acks : Decides send-acks.ended (λ M 𝓤. send-acks.spec)
decides_send_acks = record { says = send-acks-reads.Learnt; is = refl; one = λ κs a x y v w. same_both (λ l. (_, (_, (_, (_, (l, _)))))) }
