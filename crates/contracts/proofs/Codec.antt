-- What the contracts of `codec` decide: any two outcomes that one allows are equal. Assumes nothing.
use Prim.Native.Nat.{ℕ}
use mathlib.Core.Path.{◌≡◌, refl, ap, ◌∙◌}
use Rattle.std.specs.Prelude.{Result, Ok, Err}
use Rattle.codec.specs.Codec.{Read, got, no}
use Rattle.codec.specs.Taking.{outcome_of}
use Rattle.codec.specs.declared.Stop.{Stop}
use Rattle.codec.specs.contracts.take as take
use Rattle.codec.proofs.take.Reads as take-reads
use Rattle.codec.specs.contracts.short_at as short-at
use Rattle.codec.proofs.short_at.Reads as short-at-reads
use Rattle.codec.specs.contracts.refuse as refuse
use Rattle.codec.proofs.refuse.Reads as refuse-reads
use Rattle.codec.specs.contracts.no_stop as no-stop
use Rattle.codec.proofs.no_stop.Reads as no-stop-reads
use Rattle.contracts.specs.Outcomes.{Decides}
use Rattle.contracts.proofs.Law.{same_answer}

-- what `take` says of its answer says all of it: the answer can be had back
abbrev back : Read ℕ → Result (ℕ × ℕ) Stop
back (got v p) = Ok (v, p)
back (no s) = Err s

back_outcome : (r : Result (ℕ × ℕ) Stop) → r ≡ back (outcome_of r)
back_outcome (Ok x) = refl
back_outcome (Err s) = refl

told : (r : Result (ℕ × ℕ) Stop) {z : Read ℕ} → outcome_of r ≡ z → r ≡ back z
told r p = back_outcome r ∙ ap back p

pub decides_take : Decides take.ended (λ M 𝓤. take.spec)
decides_take = record { says = take-reads.Learnt; is = refl; one = λ κs a x y v w p q. same_answer (told x p) (told y q) }

pub decides_short_at : Decides short-at.ended (λ M 𝓤. short-at.spec)
decides_short_at = record { says = short-at-reads.Learnt; is = refl; one = λ κs a x y v w. same_answer }

pub decides_refuse : Decides refuse.ended (λ M 𝓤. refuse.spec)
decides_refuse = record { says = refuse-reads.Learnt; is = refl; one = λ κs a x y v w. same_answer }

pub decides_no_stop : Decides no-stop.ended (λ M 𝓤. no-stop.spec)
decides_no_stop = record { says = no-stop-reads.Learnt; is = refl; one = λ κs a x y v w. same_answer }
