-- What the contracts of `lines` decide: any two outcomes that one allows are equal. Assumes nothing.
use mathlib.Core.Path.{refl}
use Rattle.lines.specs.contracts.said as said
use Rattle.lines.proofs.said.Reads as said-reads
use Rattle.lines.specs.contracts.said_kept as said-kept
use Rattle.lines.proofs.said_kept.Reads as said-kept-reads
use Rattle.lines.specs.contracts.hex_at as hex-at
use Rattle.lines.proofs.hex_at.Reads as hex-at-reads
use Rattle.lines.specs.contracts.is_digit as is-digit
use Rattle.lines.proofs.is_digit.Reads as is-digit-reads
use Rattle.lines.specs.contracts.hex_digit as hex-digit
use Rattle.lines.proofs.hex_digit.Reads as hex-digit-reads
use Rattle.contracts.specs.Outcomes.{Decides}
use Rattle.contracts.proofs.Law.{same_answer}

pub decides_said : Decides said.ended (λ M 𝓤. said.spec)
decides_said = record { says = said-reads.Learnt; is = refl; one = λ κs a x y v w. same_answer }

pub decides_said_kept : Decides said-kept.ended (λ M 𝓤. said-kept.spec)
decides_said_kept = record { says = said-kept-reads.Learnt; is = refl; one = λ κs a x y v w. same_answer }

pub decides_hex_at : Decides hex-at.ended (λ M 𝓤. hex-at.spec)
decides_hex_at = record { says = hex-at-reads.Learnt; is = refl; one = λ κs a x y v w. same_answer }

pub decides_is_digit : Decides is-digit.ended (λ M 𝓤. is-digit.spec)
decides_is_digit = record { says = is-digit-reads.Learnt; is = refl; one = λ κs a x y v w. same_answer }

pub decides_hex_digit : Decides hex-digit.ended (λ M 𝓤. hex-digit.spec)
decides_hex_digit = record { says = hex-digit-reads.Learnt; is = refl; one = λ κs a x y v w. same_answer }
