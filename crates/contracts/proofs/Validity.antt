-- What the contracts of `validity` decide: any two outcomes that one allows are equal. Assumes nothing.
use mathlib.Core.Path.{refl}
use Rattle.validity.specs.contracts.valid as valid
use Rattle.validity.proofs.valid.Reads as valid-reads
use Rattle.contracts.specs.Outcomes.{Decides}
use Rattle.contracts.proofs.Law.{same_answer}

pub decides_valid : Decides valid.ended (λ M 𝓤. valid.spec)
decides_valid = record { says = valid-reads.Learnt; is = refl; one = λ κs a x y v w. same_answer }
