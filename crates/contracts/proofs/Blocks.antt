-- What the contracts of `blocks` decide: any two outcomes that one allows are equal. Assumes nothing.
use mathlib.Core.Path.{refl}
use Rattle.blocks.specs.contracts.line_end as line-end
use Rattle.blocks.proofs.line_end.Reads as line-end-reads
use Rattle.blocks.specs.contracts.put as put
use Rattle.blocks.proofs.put.Reads as put-reads
use Rattle.blocks.specs.contracts.put_first as put-first
use Rattle.blocks.proofs.put_first.Reads as put-first-reads
use Rattle.blocks.specs.contracts.nothing_kept as nothing-kept
use Rattle.blocks.proofs.nothing_kept.Reads as nothing-kept-reads
use Rattle.blocks.specs.contracts.keep as keep
use Rattle.blocks.proofs.keep.Reads as keep-reads
use Rattle.contracts.specs.Outcomes.{Decides}
use Rattle.contracts.proofs.Law.{same_answer, same_both}

pub decides_line_end : Decides line-end.ended (λ M 𝓤. line-end.spec)
decides_line_end = record { says = line-end-reads.Learnt; is = refl; one = λ κs a x y v w p q. same_answer p.0 q.0 }

pub decides_put : Decides put.ended (λ M 𝓤. put.spec)
decides_put = record { says = put-reads.Learnt; is = refl; one = λ κs a x y v w p q. same_both (λ l. (l, _)) p.0 q.0 }

pub decides_put_first : Decides put-first.ended (λ M 𝓤. put-first.spec)
decides_put_first = record { says = put-first-reads.Learnt; is = refl; one = λ κs a x y v w p q. same_both (λ l. (l, _)) p.0 q.0 }

pub decides_nothing_kept : Decides nothing-kept.ended (λ M 𝓤. nothing-kept.spec)
decides_nothing_kept = record { says = nothing-kept-reads.Learnt; is = refl; one = λ κs a x y v w. same_answer }

pub decides_keep : Decides keep.ended (λ M 𝓤. keep.spec)
decides_keep = record { says = keep-reads.Learnt; is = refl; one = λ κs a x y v w. same_answer }
