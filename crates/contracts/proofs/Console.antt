-- What the contracts of `console` decide: any two outcomes that one allows are equal. Assumes nothing.
use mathlib.Core.Path.{refl}
use Rattle.console.specs.contracts.cad_read as cad-read
use Rattle.console.proofs.cad_read.Reads as cad-read-reads
use Rattle.console.specs.contracts.cad_read_at as cad-read-at
use Rattle.console.proofs.cad_read_at.Reads as cad-read-at-reads
use Rattle.console.specs.contracts.cad_write as cad-write
use Rattle.console.proofs.cad_write.Reads as cad-write-reads
use Rattle.contracts.specs.Outcomes.{Decides}
use Rattle.contracts.proofs.Law.{same_both, same_all, same_each}

pub decides_cad_read : Decides cad-read.ended (λ M 𝓤. cad-read.spec)
decides_cad_read = record { says = cad-read-reads.Learnt; is = refl; one = λ κs a x y v w. same_both (λ l. (_, (_, (_, (l, _))))) }

pub decides_cad_read_at : Decides cad-read-at.ended (λ M 𝓤. cad-read-at.spec)
decides_cad_read_at = record { says = cad-read-at-reads.Learnt; is = refl; one = λ κs a x y v w. same_each (λ l n m. (_, (_, (_, (l, (n, (m, _))))))) }

pub decides_cad_write : Decides cad-write.ended (λ M 𝓤. cad-write.spec)
decides_cad_write = record { says = cad-write-reads.Learnt; is = refl; one = λ κs a x y v w. same_all (λ l n. (_, (_, (l, (n, _))))) }
