-- What the contracts of `bits` decide: any two outcomes that one allows are equal. Assumes nothing.
use mathlib.Core.Path.{refl}
use Rattle.bits.specs.contracts.field as field
use Rattle.bits.proofs.field.Reads as field-reads
use Rattle.bits.specs.contracts.eight as eight
use Rattle.bits.proofs.eight.Reads as eight-reads
use Rattle.bits.specs.contracts.put as put
use Rattle.bits.proofs.put.Reads as put-reads
use Rattle.bits.specs.contracts.pad as pad
use Rattle.bits.proofs.pad.Reads as pad-reads
use Rattle.contracts.specs.Outcomes.{Decides}
use Rattle.contracts.proofs.Law.{same_answer, same_exit}

pub decides_field : Decides field.ended (λ M 𝓤. field.spec)
decides_field = record { says = field-reads.Learnt; is = refl; one = λ κs a x y v w. same_answer }

pub decides_eight : Decides eight.ended (λ M 𝓤. eight.spec)
decides_eight = record { says = eight-reads.Learnt; is = refl; one = λ κs a x y v w. same_answer }

pub decides_put : Decides put.ended (λ M 𝓤. put.spec)
decides_put = record { says = put-reads.Learnt; is = refl; one = λ κs a x y v w. same_exit (λ l. (l, _)) }

pub decides_pad : Decides pad.ended (λ M 𝓤. pad.spec)
decides_pad = record { says = pad-reads.Learnt; is = refl; one = λ κs a x y v w. same_exit (λ l. (l, _)) }
