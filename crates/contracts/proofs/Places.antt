-- What the contracts of `places` decide: any two outcomes that one allows are equal. Assumes nothing.
use mathlib.Core.Path.{refl}
use Rattle.places.specs.contracts.places_ok as places-ok
use Rattle.places.proofs.places_ok.Reads as places-ok-reads
use Rattle.places.specs.contracts.fits as fits
use Rattle.places.proofs.fits.Reads as fits-reads
use Rattle.places.specs.contracts.admits as admits
use Rattle.places.proofs.admits.Reads as admits-reads
use Rattle.places.specs.contracts.place_of as place-of
use Rattle.places.proofs.place_of.Reads as place-of-reads
use Rattle.places.specs.contracts.lowest_free as lowest-free
use Rattle.places.proofs.lowest_free.Reads as lowest-free-reads
use Rattle.places.specs.contracts.take as take
use Rattle.places.proofs.take.Reads as take-reads
use Rattle.places.specs.contracts.clear as clear
use Rattle.places.proofs.clear.Reads as clear-reads
use Rattle.places.specs.contracts.place_at as place-at
use Rattle.places.proofs.place_at.Reads as place-at-reads
use Rattle.places.specs.contracts.move_on as move-on
use Rattle.places.proofs.move_on.Reads as move-on-reads
use Rattle.contracts.specs.Outcomes.{Decides}
use Rattle.contracts.proofs.Law.{same_answer}

pub decides_places_ok : Decides places-ok.ended (λ M 𝓤. places-ok.spec)
decides_places_ok = record { says = places-ok-reads.Learnt; is = refl; one = λ κs a x y v w. same_answer }

pub decides_admits : Decides admits.ended (λ M 𝓤. admits.spec)
decides_admits = record { says = admits-reads.Learnt; is = refl; one = λ κs a x y v w. same_answer }

pub decides_place_of : Decides place-of.ended (λ M 𝓤. place-of.spec)
decides_place_of = record { says = place-of-reads.Learnt; is = refl; one = λ κs a x y v w. same_answer }

pub decides_lowest_free : Decides lowest-free.ended (λ M 𝓤. lowest-free.spec)
decides_lowest_free = record { says = lowest-free-reads.Learnt; is = refl; one = λ κs a x y v w. same_answer }

pub decides_take : Decides take.ended (λ M 𝓤. take.spec)
decides_take = record { says = take-reads.Learnt; is = refl; one = λ κs a x y v w. same_answer }

pub decides_clear : Decides clear.ended (λ M 𝓤. clear.spec)
decides_clear = record { says = clear-reads.Learnt; is = refl; one = λ κs a x y v w. same_answer }

pub decides_place_at : Decides place-at.ended (λ M 𝓤. place-at.spec)
decides_place_at = record { says = place-at-reads.Learnt; is = refl; one = λ κs a x y v w. same_answer }

pub decides_move_on : Decides move-on.ended (λ M 𝓤. move-on.spec)
decides_move_on = record { says = move-on-reads.Learnt; is = refl; one = λ κs a x y v w. same_answer }

pub decides_fits : Decides fits.ended (λ M 𝓤. fits.spec)
decides_fits = record { says = fits-reads.Learnt; is = refl; one = λ κs a x y v w. same_answer }
