-- What the contracts of `writing` decide: any two outcomes that one allows are equal. Assumes nothing.
use mathlib.Core.Path.{refl}
use Rattle.writing.specs.contracts.write as write
use Rattle.writing.proofs.write.Reads as write-reads
use Rattle.writing.specs.contracts.write_at as write-at
use Rattle.writing.proofs.write_at.Reads as write-at-reads
use Rattle.contracts.specs.Outcomes.{Decides}
use Rattle.contracts.proofs.Law.{same_both}

pub decides_write : Decides write.ended (λ M 𝓤. write.spec)
decides_write = record { says = write-reads.Learnt; is = refl; one = λ κs a x y v w. same_both (λ l. (_, (_, (l, _)))) }

pub decides_write_at : Decides write-at.ended (λ M 𝓤. write-at.spec)
decides_write_at = record { says = write-at-reads.Learnt; is = refl; one = λ κs a x y v w. same_both (λ l. (_, (_, (l, _)))) }
