use mathlib.Core.Path.{sym, ap, ◌∙◌}
use Rattle.codec.specs.Codec.{number}
use Rattle.message.specs.Addresses.{address_c}
use Rattle.message.specs.Acks.{masked_c, result_c, state_c}
use Rattle.message.proofs.RowLaws.{width_few}
use Rattle.validity.specs.Parts.{part_ok}
use Rattle.validity.proofs.ValidLaws.{group_alike}
use Rattle.validity.proofs.RowLaws.{nothing_ok}
use Rattle.validity.proofs.part.part_ok.Goals as goal

pub fits-requires : goal.fits-requires
fits-requires c = rw c.width_of.ensures (width_few _)

pub returns-in-Nothing : goal.returns-in-Nothing
returns-in-Nothing c = rw c.in-Nothing.is (nothing_ok _ _ _)

pub returns-in-Number : goal.returns-in-Number
unfolding part_ok number
returns-in-Number c = rw (c.in-Number.is, ← c.number_at.ensures, ← c.width_of.ensures) c.fits.ensures

pub returns-in-Users : goal.returns-in-Users
unfolding part_ok
returns-in-Users c = rw c.in-Users.is c.group_ok.ensures

pub returns-in-User : goal.returns-in-User
unfolding part_ok address_c
returns-in-User c = rw (c.in-User.is, ← c.address_at.ensures) c.address_ok.ensures

pub returns-in-Masked : goal.returns-in-Masked
unfolding part_ok masked_c
returns-in-Masked c = rw (c.in-Masked.is, ← c.span_of.ensures, ← c.min.ensures) c.masked_ok.ensures

pub returns-in-Result : goal.returns-in-Result
unfolding part_ok result_c
returns-in-Result c = rw (c.in-Result.is, ← c.number_at-in-Result.ensures, ← c.number_at-in-Result-2.ensures) c.result_ok.ensures

pub returns-in-Dispatchers : goal.returns-in-Dispatchers
unfolding part_ok
returns-in-Dispatchers c = rw c.in-Dispatchers.is c.group_ok-in-Dispatchers.ensures

pub returns-in-Dispatcher : goal.returns-in-Dispatcher
unfolding part_ok address_c
returns-in-Dispatcher c = rw (c.in-Dispatcher.is, ← c.address_at-in-Dispatcher.ensures) c.address_ok-in-Dispatcher.ensures

pub returns-in-Interrogation : goal.returns-in-Interrogation
unfolding part_ok
returns-in-Interrogation c = rw c.in-Interrogation.is (c.state_ok.ensures ∙ ap (λ s. state_c.ok s) c.state_in.ensures)

pub returns-in-Sources : goal.returns-in-Sources
unfolding part_ok
returns-in-Sources c = rw c.in-Sources.is c.group_ok-in-Sources.ensures

pub returns-in-Destinations : goal.returns-in-Destinations
unfolding part_ok
returns-in-Destinations c = rw c.in-Destinations.is (c.group_ok-in-Destinations.ensures ∙ sym (group_alike _ _ _))

pub returns-in-Areas : goal.returns-in-Areas
unfolding part_ok
returns-in-Areas c = rw c.in-Areas.is c.areas_ok.ensures
