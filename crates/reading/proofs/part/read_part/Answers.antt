use Rattle.std.proofs.lemmas.Result.{err_from_is_err_and}
use Rattle.reading.proofs.RowLaws.{nothing_read, users_read}
use Rattle.reading.proofs.part.read_part.Goals as goal

pub returns-in_err-users-in-Users : goal.returns-in_err-users-in-Users
returns-in_err-users-in-Users c =
    let p = err_from_is_err_and c.from_residual.result c.from_residual.ensures.1 in
    rw (p.1, p.2, c.in-Users.is, users_read _ _ _ _ _, ← c.in_err-users-in-Users.ensures)

pub returns-in-Nothing : goal.returns-in-Nothing
returns-in-Nothing c = rw (c.in-Nothing.is, nothing_read _ _ _ _ _)

pub returns-in_ok-users-in-Users : goal.returns-in_ok-users-in-Users
returns-in_ok-users-in-Users c =
    rw (c.with_users.ensures, c.in-Users.is, users_read _ _ _ _ _, ← c.in_ok-users-in-Users.ensures)

pub returns-in-Number : goal.returns-in-Number
returns-in-Number c = rw c.in-Number.is c.number_part.ensures

pub returns-in-User : goal.returns-in-User
returns-in-User c = rw c.in-User.is c.user_part.ensures

pub returns-in-Masked : goal.returns-in-Masked
returns-in-Masked c = rw c.in-Masked.is c.mask_part.ensures

pub returns-in-Result : goal.returns-in-Result
returns-in-Result c = rw c.in-Result.is c.result_part.ensures

pub returns-in-Dispatchers : goal.returns-in-Dispatchers
returns-in-Dispatchers c = rw c.in-Dispatchers.is c.dispatchers_part.ensures

pub returns-in-Dispatcher : goal.returns-in-Dispatcher
returns-in-Dispatcher c = rw c.in-Dispatcher.is c.dispatcher_part.ensures

pub returns-in-Interrogation : goal.returns-in-Interrogation
returns-in-Interrogation c = rw c.in-Interrogation.is c.state_part.ensures

pub returns-in-Sources : goal.returns-in-Sources
returns-in-Sources c = rw c.in-Sources.is c.sources_part.ensures

pub returns-in-Destinations : goal.returns-in-Destinations
returns-in-Destinations c = rw c.in-Destinations.is c.destinations_part.ensures

pub returns-in-Areas : goal.returns-in-Areas
returns-in-Areas c = rw c.in-Areas.is c.areas_part.ensures
