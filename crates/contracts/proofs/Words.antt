-- What the contracts of `words` decide: any two outcomes that one allows are equal. Assumes nothing.
use mathlib.Core.Path.{refl}
use Rattle.words.specs.contracts.said as said
use Rattle.words.proofs.said.Reads as said-reads
use Rattle.words.specs.contracts.said_refused as said-refused
use Rattle.words.proofs.said_refused.Reads as said-refused-reads
use Rattle.words.specs.contracts.said_change as said-change
use Rattle.words.proofs.said_change.Reads as said-change-reads
use Rattle.words.specs.contracts.said_place as said-place
use Rattle.words.proofs.said_place.Reads as said-place-reads
use Rattle.words.specs.contracts.said_record as said-record
use Rattle.words.proofs.said_record.Reads as said-record-reads
use Rattle.contracts.specs.Outcomes.{Decides}
use Rattle.contracts.proofs.Law.{same_answer}

pub decides_said : Decides said.ended (λ M 𝓤. said.spec)
decides_said = record { says = said-reads.Learnt; is = refl; one = λ κs a x y v w. same_answer }

pub decides_said_refused : Decides said-refused.ended (λ M 𝓤. said-refused.spec)
decides_said_refused = record { says = said-refused-reads.Learnt; is = refl; one = λ κs a x y v w. same_answer }

pub decides_said_place : Decides said-place.ended (λ M 𝓤. said-place.spec)
decides_said_place = record { says = said-place-reads.Learnt; is = refl; one = λ κs a x y v w. same_answer }

pub decides_said_record : Decides said-record.ended (λ M 𝓤. said-record.spec)
decides_said_record = record { says = said-record-reads.Learnt; is = refl; one = λ κs a x y v w. same_answer }

pub decides_said_change : Decides said-change.ended (λ M 𝓤. said-change.spec)
decides_said_change = record { says = said-change-reads.Learnt; is = refl; one = λ κs a x y v w. same_answer }
