-- What the contracts of `records` decide: any two outcomes that one allows are equal. Assumes nothing.
use mathlib.Core.Path.{refl}
use Rattle.records.specs.contracts.records_ok as records-ok
use Rattle.records.proofs.records_ok.Reads as records-ok-reads
use Rattle.records.specs.contracts.state_of as state-of
use Rattle.records.proofs.state_of.Reads as state-of-reads
use Rattle.records.specs.contracts.restricted as restricted
use Rattle.records.proofs.restricted.Reads as restricted-reads
use Rattle.records.specs.contracts.second as second
use Rattle.records.proofs.second.Reads as second-reads
use Rattle.records.specs.contracts.judged_of as judged-of
use Rattle.records.proofs.judged_of.Reads as judged-of-reads
use Rattle.records.specs.contracts.sorted_of as sorted-of
use Rattle.records.proofs.sorted_of.Reads as sorted-of-reads
use Rattle.records.specs.contracts.marks_of as marks-of
use Rattle.records.proofs.marks_of.Reads as marks-of-reads
use Rattle.records.specs.contracts.no_marks as no-marks
use Rattle.records.proofs.no_marks.Reads as no-marks-reads
use Rattle.contracts.specs.Outcomes.{Decides}
use Rattle.contracts.proofs.Law.{same_answer}

pub decides_records_ok : Decides records-ok.ended (λ M 𝓤. records-ok.spec)
decides_records_ok = record { says = records-ok-reads.Learnt; is = refl; one = λ κs a x y v w. same_answer }

pub decides_state_of : Decides state-of.ended (λ M 𝓤. state-of.spec)
decides_state_of = record { says = state-of-reads.Learnt; is = refl; one = λ κs a x y v w. same_answer }

pub decides_restricted : Decides restricted.ended (λ M 𝓤. restricted.spec)
decides_restricted = record { says = restricted-reads.Learnt; is = refl; one = λ κs a x y v w. same_answer }

pub decides_second : Decides second.ended (λ M 𝓤. second.spec)
decides_second = record { says = second-reads.Learnt; is = refl; one = λ κs a x y v w. same_answer }

pub decides_judged_of : Decides judged-of.ended (λ M 𝓤. judged-of.spec)
decides_judged_of = record { says = judged-of-reads.Learnt; is = refl; one = λ κs a x y v w. same_answer }

pub decides_sorted_of : Decides sorted-of.ended (λ M 𝓤. sorted-of.spec)
decides_sorted_of = record { says = sorted-of-reads.Learnt; is = refl; one = λ κs a x y v w. same_answer }

pub decides_marks_of : Decides marks-of.ended (λ M 𝓤. marks-of.spec)
decides_marks_of = record { says = marks-of-reads.Learnt; is = refl; one = λ κs a x y v w. same_answer }

pub decides_no_marks : Decides no-marks.ended (λ M 𝓤. no-marks.spec)
decides_no_marks = record { says = no-marks-reads.Learnt; is = refl; one = λ κs a x y v w. same_answer }
