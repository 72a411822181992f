-- What the contracts of `script` decide: any two outcomes that one allows are equal. Assumes nothing.
use mathlib.Core.Path.{refl}
use Rattle.script.specs.contracts.parse as parse
use Rattle.script.proofs.parse.Reads as parse-reads
use Rattle.script.specs.contracts.parse_kept as parse-kept
use Rattle.script.proofs.parse_kept.Reads as parse-kept-reads
use Rattle.contracts.specs.Outcomes.{Decides}
use Rattle.contracts.proofs.Law.{same_answer}

pub decides_parse : Decides parse.ended (λ M 𝓤. parse.spec)
decides_parse = record { says = parse-reads.Learnt; is = refl; one = λ κs a x y v w. same_answer }

pub decides_parse_kept : Decides parse-kept.ended (λ M 𝓤. parse-kept.spec)
decides_parse_kept = record { says = parse-kept-reads.Learnt; is = refl; one = λ κs a x y v w. same_answer }
