use Rattle.message.specs.Rows.{copy_of}
use Rattle.message.proofs.copied.Goals as goal

pub returns-in-Nothing : goal.returns-in-Nothing
unfolding copy_of
returns-in-Nothing c = rw c.in-Nothing.is

pub returns-in-Number : goal.returns-in-Number
unfolding copy_of
returns-in-Number c = rw (c.in-Number.is, c.with_number.ensures, c.number_at.ensures)

pub returns-in-Users : goal.returns-in-Users
unfolding copy_of
returns-in-Users c = rw (c.in-Users.is, c.with_users.ensures)

pub returns-in-User : goal.returns-in-User
unfolding copy_of
returns-in-User c = rw (c.in-User.is, c.with_user.ensures, c.address_at.ensures)

pub returns-in-Masked : goal.returns-in-Masked
unfolding copy_of
returns-in-Masked c = rw (c.in-Masked.is, c.with_mask.ensures)

pub returns-in-Result : goal.returns-in-Result
unfolding copy_of
returns-in-Result c = rw (c.in-Result.is, c.with_result.ensures, c.number_at-in-Result-2.ensures, c.number_at-in-Result.ensures)

pub returns-in-Dispatchers : goal.returns-in-Dispatchers
unfolding copy_of
returns-in-Dispatchers c = rw (c.in-Dispatchers.is, c.with_dispatchers.ensures)

pub returns-in-Dispatcher : goal.returns-in-Dispatcher
unfolding copy_of
returns-in-Dispatcher c = rw (c.in-Dispatcher.is, c.with_dispatcher.ensures, c.address_at-in-Dispatcher.ensures)

pub returns-in-Interrogation : goal.returns-in-Interrogation
unfolding copy_of
returns-in-Interrogation c = rw (c.in-Interrogation.is, c.with_state.ensures, c.state_in.ensures)

pub returns-in-Sources : goal.returns-in-Sources
unfolding copy_of
returns-in-Sources c = rw (c.in-Sources.is, c.with_sources.ensures)

pub returns-in-Destinations : goal.returns-in-Destinations
unfolding copy_of
returns-in-Destinations c = rw (c.in-Destinations.is, c.with_destinations.ensures)

pub returns-in-Areas : goal.returns-in-Areas
unfolding copy_of
returns-in-Areas c = rw (c.in-Areas.is, c.with_areas.ensures)
