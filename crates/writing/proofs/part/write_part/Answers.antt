use Rattle.std.proofs.Common.{arith, rules}
use Rattle.codec.specs.Codec.{number}
use Rattle.message.specs.Acks.{masked_c, result_c}
use Rattle.message.specs.Addresses.{address_c}
use Rattle.message.specs.Groups.{range_c, group_c}
use Rattle.message.proofs.RowLaws.{width_few}
use Rattle.writing.specs.Parts.{part_bits}
use Rattle.writing.proofs.PartLaws.{group_alike}
use Rattle.writing.proofs.RowLaws.{wrote_nothing}
use Rattle.writing.proofs.part.write_part.Goals as goal

pub word-requires : goal.word-requires
word-requires c = omega (arith, c.width_of.ensures, width_few c.in-Number.place)

pub returns-in-Nothing : goal.returns-in-Nothing
returns-in-Nothing c = rw c.in-Nothing.is (wrote_nothing _ _ _ _ _ (search rules))

pub returns-in-Number : goal.returns-in-Number
unfolding part_bits number
returns-in-Number c = rw c.in-Number.is (rw (c.number_at.ensures, c.width_of.ensures) at c.word.ensures)

pub returns-in-Users : goal.returns-in-Users
unfolding part_bits group_c range_c
returns-in-Users c = rw c.in-Users.is c.write_group.ensures

pub returns-in-User : goal.returns-in-User
unfolding part_bits address_c
returns-in-User c = rw c.in-User.is (rw c.address_at.ensures at c.write_address.ensures)

pub returns-in-Masked : goal.returns-in-Masked
unfolding part_bits masked_c
returns-in-Masked c = rw c.in-Masked.is (rw (c.min-count.ensures, c.span_of.ensures) at c.write_masked.ensures)

pub returns-in-Result : goal.returns-in-Result
unfolding part_bits result_c
returns-in-Result c = rw c.in-Result.is (rw (c.number_at-in-Result-2.ensures, c.number_at-in-Result.ensures) at c.write_result.ensures)

pub returns-in-Dispatchers : goal.returns-in-Dispatchers
unfolding part_bits group_c range_c
returns-in-Dispatchers c = rw c.in-Dispatchers.is c.write_group-in-Dispatchers.ensures

pub returns-in-Dispatcher : goal.returns-in-Dispatcher
unfolding part_bits address_c
returns-in-Dispatcher c = rw c.in-Dispatcher.is (rw c.address_at-in-Dispatcher.ensures at c.write_address-in-Dispatcher.ensures)

pub returns-in-Interrogation : goal.returns-in-Interrogation
unfolding part_bits
returns-in-Interrogation c = rw c.in-Interrogation.is (rw c.state_in.ensures at c.write_state.ensures)

pub returns-in-Sources : goal.returns-in-Sources
unfolding part_bits group_c range_c
returns-in-Sources c = rw c.in-Sources.is c.write_group-in-Sources.ensures

pub returns-in-Destinations : goal.returns-in-Destinations
unfolding part_bits
returns-in-Destinations c = rw c.in-Destinations.is (rw (group_alike _ _) c.write_group-in-Destinations.ensures)

pub returns-in-Areas : goal.returns-in-Areas
unfolding part_bits
returns-in-Areas c = rw c.in-Areas.is c.write_areas.ensures
