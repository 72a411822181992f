use Rattle.layouts.proofs.PartLaws.{of_users, of_dispatchers, of_sources, of_destinations}
use Rattle.console.proofs.part.group_at.Goals as goal

pub returns-in-Users : goal.returns-in-Users
returns-in-Users c = rw c.in-Users.is of_users

pub returns-in-Dispatchers : goal.returns-in-Dispatchers
returns-in-Dispatchers c = rw c.in-Dispatchers.is of_dispatchers

pub returns-in-Sources : goal.returns-in-Sources
returns-in-Sources c = rw c.in-Sources.is of_sources

pub returns-in-Destinations : goal.returns-in-Destinations
returns-in-Destinations c = rw c.in-Destinations.is of_destinations
