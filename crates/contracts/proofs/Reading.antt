-- What the contracts of `reading` decide: any two outcomes that one allows are equal. Assumes nothing.
use mathlib.Core.Path.{refl}
use Rattle.reading.specs.contracts.read as read
use Rattle.reading.proofs.read.Reads as read-reads
use Rattle.reading.specs.contracts.read_type as read-type
use Rattle.reading.proofs.read_type.Reads as read-type-reads
use Rattle.contracts.specs.Outcomes.{Decides}
use Rattle.contracts.proofs.Law.{same_answer}

pub decides_read : Decides read.ended (λ M 𝓤. read.spec)
decides_read = record { says = read-reads.Learnt; is = refl; one = λ κs a x y v w. same_answer }

pub decides_read_type : Decides read-type.ended (λ M 𝓤. read-type.spec)
decides_read_type = record { says = read-type-reads.Learnt; is = refl; one = λ κs a x y v w. same_answer }
