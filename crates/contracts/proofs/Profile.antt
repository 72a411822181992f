-- What the contracts of `profile` decide: any two outcomes that one allows are equal. Assumes nothing.
use mathlib.Core.Path.{refl}
use Rattle.profile.specs.contracts.Profile.new as new
use Rattle.profile.proofs.Profile.new.Reads as new-reads
use Rattle.profile.specs.contracts.profile_ok as profile-ok
use Rattle.profile.proofs.profile_ok.Reads as profile-ok-reads
use Rattle.profile.specs.contracts.shares_ok as shares-ok
use Rattle.profile.proofs.shares_ok.Reads as shares-ok-reads
use Rattle.profile.specs.contracts.sample_profile as sample-profile
use Rattle.profile.proofs.sample_profile.Reads as sample-profile-reads
use Rattle.profile.specs.contracts.meaning_of as meaning-of
use Rattle.profile.proofs.meaning_of.Reads as meaning-of-reads
use Rattle.profile.specs.contracts.meaning_from as meaning-from
use Rattle.profile.proofs.meaning_from.Reads as meaning-from-reads
use Rattle.profile.specs.contracts.list_ok as list-ok
use Rattle.profile.proofs.list_ok.Reads as list-ok-reads
use Rattle.profile.specs.contracts.list_of_one as list-of-one
use Rattle.profile.proofs.list_of_one.Reads as list-of-one-reads
use Rattle.contracts.specs.Outcomes.{Decides}
use Rattle.contracts.proofs.Law.{same_answer}

pub decides_new : Decides new.ended (λ M 𝓤. new.spec)
decides_new = record { says = new-reads.Learnt; is = refl; one = λ κs a x y v w. same_answer }

pub decides_profile_ok : Decides profile-ok.ended (λ M 𝓤. profile-ok.spec)
decides_profile_ok = record { says = profile-ok-reads.Learnt; is = refl; one = λ κs a x y v w. same_answer }

pub decides_sample_profile : Decides sample-profile.ended (λ M 𝓤. sample-profile.spec)
decides_sample_profile = record { says = sample-profile-reads.Learnt; is = refl; one = λ κs a x y v w. same_answer }

pub decides_meaning_of : Decides meaning-of.ended (λ M 𝓤. meaning-of.spec)
decides_meaning_of = record { says = meaning-of-reads.Learnt; is = refl; one = λ κs a x y v w. same_answer }

pub decides_list_of_one : Decides list-of-one.ended (λ M 𝓤. list-of-one.spec)
decides_list_of_one = record { says = list-of-one-reads.Learnt; is = refl; one = λ κs a x y v w. same_answer }

pub decides_list_ok : Decides list-ok.ended (λ M 𝓤. list-ok.spec)
decides_list_ok = record { says = list-ok-reads.Learnt; is = refl; one = λ κs a x y v w. same_answer }

pub decides_meaning_from : Decides meaning-from.ended (λ M 𝓤. meaning-from.spec)
decides_meaning_from = record { says = meaning-from-reads.Learnt; is = refl; one = λ κs a x y v w. same_answer }

pub decides_shares_ok : Decides shares-ok.ended (λ M 𝓤. shares-ok.spec)
decides_shares_ok = record { says = shares-ok-reads.Learnt; is = refl; one = λ κs a x y v w. same_answer }
