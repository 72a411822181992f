-- What the contracts of `message` decide: any two outcomes that one allows are equal. Assumes nothing.
use mathlib.Core.Path.{refl}
use Rattle.message.specs.contracts.addresses_in as addresses-in
use Rattle.message.proofs.addresses_in.Reads as addresses-in-reads
use Rattle.message.specs.contracts.allowed as allowed
use Rattle.message.proofs.allowed.Reads as allowed-reads
use Rattle.message.specs.contracts.ends_ok as ends-ok
use Rattle.message.proofs.ends_ok.Reads as ends-ok-reads
use Rattle.message.specs.contracts.range_ok as range-ok
use Rattle.message.proofs.range_ok.Reads as range-ok-reads
use Rattle.message.specs.contracts.span_of as span-of
use Rattle.message.proofs.span_of.Reads as span-of-reads
use Rattle.message.specs.contracts.span as span
use Rattle.message.proofs.span.Reads as span-reads
use Rattle.message.specs.contracts.element_of as element-of
use Rattle.message.proofs.element_of.Reads as element-of-reads
use Rattle.message.specs.contracts.width_of as width-of
use Rattle.message.proofs.width_of.Reads as width-of-reads
use Rattle.message.specs.contracts.row_of as row-of
use Rattle.message.proofs.row_of.Reads as row-of-reads
use Rattle.message.specs.contracts.is_carried as is-carried
use Rattle.message.proofs.is_carried.Reads as is-carried-reads
use Rattle.message.specs.contracts.address_at as address-at
use Rattle.message.proofs.address_at.Reads as address-at-reads
use Rattle.message.specs.contracts.number_at as number-at
use Rattle.message.proofs.number_at.Reads as number-at-reads
use Rattle.message.specs.contracts.given_at as given-at
use Rattle.message.proofs.given_at.Reads as given-at-reads
use Rattle.message.specs.contracts.no_group as no-group
use Rattle.message.proofs.no_group.Reads as no-group-reads
use Rattle.message.specs.contracts.blank as blank
use Rattle.message.proofs.blank.Reads as blank-reads
use Rattle.message.specs.contracts.with_number as with-number
use Rattle.message.proofs.with_number.Reads as with-number-reads
use Rattle.message.specs.contracts.with_users as with-users
use Rattle.message.proofs.with_users.Reads as with-users-reads
use Rattle.message.specs.contracts.with_user as with-user
use Rattle.message.proofs.with_user.Reads as with-user-reads
use Rattle.message.specs.contracts.with_mask as with-mask
use Rattle.message.proofs.with_mask.Reads as with-mask-reads
use Rattle.message.specs.contracts.with_result as with-result
use Rattle.message.proofs.with_result.Reads as with-result-reads
use Rattle.message.specs.contracts.with_dispatchers as with-dispatchers
use Rattle.message.proofs.with_dispatchers.Reads as with-dispatchers-reads
use Rattle.message.specs.contracts.with_dispatcher as with-dispatcher
use Rattle.message.proofs.with_dispatcher.Reads as with-dispatcher-reads
use Rattle.message.specs.contracts.areas_rise as areas-rise
use Rattle.message.proofs.areas_rise.Reads as areas-rise-reads
use Rattle.message.specs.contracts.state_in as state-in
use Rattle.message.proofs.state_in.Reads as state-in-reads
use Rattle.message.specs.contracts.with_state as with-state
use Rattle.message.proofs.with_state.Reads as with-state-reads
use Rattle.message.specs.contracts.with_sources as with-sources
use Rattle.message.proofs.with_sources.Reads as with-sources-reads
use Rattle.message.specs.contracts.with_destinations as with-destinations
use Rattle.message.proofs.with_destinations.Reads as with-destinations-reads
use Rattle.message.specs.contracts.with_areas as with-areas
use Rattle.message.proofs.with_areas.Reads as with-areas-reads
use Rattle.message.specs.contracts.with_given as with-given
use Rattle.message.proofs.with_given.Reads as with-given-reads
use Rattle.message.specs.contracts.copied as copied
use Rattle.message.proofs.copied.Reads as copied-reads
use Rattle.message.specs.contracts.copied_option as copied-option
use Rattle.message.proofs.copied_option.Reads as copied-option-reads
use Rattle.contracts.specs.Outcomes.{Decides}
use Rattle.contracts.proofs.Law.{same_answer}

pub decides_addresses_in : Decides addresses-in.ended (λ M 𝓤. addresses-in.spec)
decides_addresses_in = record { says = addresses-in-reads.Learnt; is = refl; one = λ κs a x y v w. same_answer }

pub decides_allowed : Decides allowed.ended (λ M 𝓤. allowed.spec)
decides_allowed = record { says = allowed-reads.Learnt; is = refl; one = λ κs a x y v w. same_answer }

pub decides_ends_ok : Decides ends-ok.ended (λ M 𝓤. ends-ok.spec)
decides_ends_ok = record { says = ends-ok-reads.Learnt; is = refl; one = λ κs a x y v w. same_answer }

pub decides_range_ok : Decides range-ok.ended (λ M 𝓤. range-ok.spec)
decides_range_ok = record { says = range-ok-reads.Learnt; is = refl; one = λ κs a x y v w. same_answer }

pub decides_span_of : Decides span-of.ended (λ M 𝓤. span-of.spec)
decides_span_of = record { says = span-of-reads.Learnt; is = refl; one = λ κs a x y v w. same_answer }

pub decides_span : Decides span.ended (λ M 𝓤. span.spec)
decides_span = record { says = span-reads.Learnt; is = refl; one = λ κs a x y v w. same_answer }

pub decides_element_of : Decides element-of.ended (λ M 𝓤. element-of.spec)
decides_element_of = record { says = element-of-reads.Learnt; is = refl; one = λ κs a x y v w. same_answer }

pub decides_width_of : Decides width-of.ended (λ M 𝓤. width-of.spec)
decides_width_of = record { says = width-of-reads.Learnt; is = refl; one = λ κs a x y v w. same_answer }

pub decides_row_of : Decides row-of.ended (λ M 𝓤. row-of.spec)
decides_row_of = record { says = row-of-reads.Learnt; is = refl; one = λ κs a x y v w. same_answer }

pub decides_is_carried : Decides is-carried.ended (λ M 𝓤. is-carried.spec)
decides_is_carried = record { says = is-carried-reads.Learnt; is = refl; one = λ κs a x y v w. same_answer }

pub decides_address_at : Decides address-at.ended (λ M 𝓤. address-at.spec)
decides_address_at = record { says = address-at-reads.Learnt; is = refl; one = λ κs a x y v w. same_answer }

pub decides_number_at : Decides number-at.ended (λ M 𝓤. number-at.spec)
decides_number_at = record { says = number-at-reads.Learnt; is = refl; one = λ κs a x y v w. same_answer }

pub decides_given_at : Decides given-at.ended (λ M 𝓤. given-at.spec)
decides_given_at = record { says = given-at-reads.Learnt; is = refl; one = λ κs a x y v w. same_answer }

pub decides_no_group : Decides no-group.ended (λ M 𝓤. no-group.spec)
decides_no_group = record { says = no-group-reads.Learnt; is = refl; one = λ κs a x y v w. same_answer }

pub decides_blank : Decides blank.ended (λ M 𝓤. blank.spec)
decides_blank = record { says = blank-reads.Learnt; is = refl; one = λ κs a x y v w. same_answer }

pub decides_with_number : Decides with-number.ended (λ M 𝓤. with-number.spec)
decides_with_number = record { says = with-number-reads.Learnt; is = refl; one = λ κs a x y v w. same_answer }

pub decides_with_users : Decides with-users.ended (λ M 𝓤. with-users.spec)
decides_with_users = record { says = with-users-reads.Learnt; is = refl; one = λ κs a x y v w. same_answer }

pub decides_with_user : Decides with-user.ended (λ M 𝓤. with-user.spec)
decides_with_user = record { says = with-user-reads.Learnt; is = refl; one = λ κs a x y v w. same_answer }

pub decides_with_mask : Decides with-mask.ended (λ M 𝓤. with-mask.spec)
decides_with_mask = record { says = with-mask-reads.Learnt; is = refl; one = λ κs a x y v w. same_answer }

pub decides_with_result : Decides with-result.ended (λ M 𝓤. with-result.spec)
decides_with_result = record { says = with-result-reads.Learnt; is = refl; one = λ κs a x y v w. same_answer }

pub decides_with_dispatchers : Decides with-dispatchers.ended (λ M 𝓤. with-dispatchers.spec)
decides_with_dispatchers = record { says = with-dispatchers-reads.Learnt; is = refl; one = λ κs a x y v w. same_answer }

pub decides_with_dispatcher : Decides with-dispatcher.ended (λ M 𝓤. with-dispatcher.spec)
decides_with_dispatcher = record { says = with-dispatcher-reads.Learnt; is = refl; one = λ κs a x y v w. same_answer }

pub decides_areas_rise : Decides areas-rise.ended (λ M 𝓤. areas-rise.spec)
decides_areas_rise = record { says = areas-rise-reads.Learnt; is = refl; one = λ κs a x y v w. same_answer }

pub decides_state_in : Decides state-in.ended (λ M 𝓤. state-in.spec)
decides_state_in = record { says = state-in-reads.Learnt; is = refl; one = λ κs a x y v w. same_answer }

pub decides_with_state : Decides with-state.ended (λ M 𝓤. with-state.spec)
decides_with_state = record { says = with-state-reads.Learnt; is = refl; one = λ κs a x y v w. same_answer }

pub decides_with_sources : Decides with-sources.ended (λ M 𝓤. with-sources.spec)
decides_with_sources = record { says = with-sources-reads.Learnt; is = refl; one = λ κs a x y v w. same_answer }

pub decides_with_destinations : Decides with-destinations.ended (λ M 𝓤. with-destinations.spec)
decides_with_destinations = record { says = with-destinations-reads.Learnt; is = refl; one = λ κs a x y v w. same_answer }

pub decides_with_areas : Decides with-areas.ended (λ M 𝓤. with-areas.spec)
decides_with_areas = record { says = with-areas-reads.Learnt; is = refl; one = λ κs a x y v w. same_answer }

pub decides_with_given : Decides with-given.ended (λ M 𝓤. with-given.spec)
decides_with_given = record { says = with-given-reads.Learnt; is = refl; one = λ κs a x y v w. same_answer }

pub decides_copied : Decides copied.ended (λ M 𝓤. copied.spec)
decides_copied = record { says = copied-reads.Learnt; is = refl; one = λ κs a x y v w. same_answer }

pub decides_copied_option : Decides copied-option.ended (λ M 𝓤. copied-option.spec)
decides_copied_option = record { says = copied-option-reads.Learnt; is = refl; one = λ κs a x y v w. same_answer }
