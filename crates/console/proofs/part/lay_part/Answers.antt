use Rattle.std.proofs.Common.{refl}
use Rattle.std.proofs.lemmas.Option.{IfSome_then}
use Rattle.bits.proofs.FieldLaws.{bit_lt}
use Rattle.bits.specs.Fields.{bit_at}
use Rattle.layouts.proofs.PartLaws.{nothing_lay, dispatcher_lay, group_place, group_lay}
use Rattle.layouts.proofs.RowReads.{PartLays}
use Rattle.layouts.specs.Profiles.{air_from}
use Rattle.message.specs.declared.Part.TheVariants.{Dispatcher}
use Rattle.console.proofs.part.lay_part.Goals as goal

pub lay_group-requires : goal.lay_group-requires
lay_group-requires c =
    (group_place _ _ c.in-Some.ensures, c.requires)

pub returns-in-Some : goal.returns-in-Some
returns-in-Some c =
    IfSome_then _ {Q = λ n. PartLays (air_from c.args.profile.now) (bit_at c.args.buf.now) c.args.part c.args.at c.args.area.now c.lay_group.new.area n} c.lay_group.ensures
    (λ n x v l. group_lay (air_from c.args.profile.now) c.args.buf.now c.args.area.now _ c.args.at _ v l _ _ c.in-Some.ensures x)

pub returns-in-Nothing : goal.returns-in-Nothing
returns-in-Nothing c =
    rw c.in-Nothing.is (λ v l. nothing_lay (air_from c.args.profile.now) (bit_at c.args.buf.now) (bit_lt c.args.buf.now) c.args.area.now _ c.args.at _ v l refl refl)

pub returns-in-Number : goal.returns-in-Number
returns-in-Number c = rw c.in-Number.is c.lay_number.ensures

pub returns-in-User : goal.returns-in-User
returns-in-User c = rw c.in-User.is c.lay_user.ensures

pub returns-in-Masked : goal.returns-in-Masked
returns-in-Masked c = rw c.in-Masked.is c.lay_mask.ensures

pub returns-in-Result : goal.returns-in-Result
returns-in-Result c = rw c.in-Result.is c.lay_result.ensures

pub returns-in-Dispatcher : goal.returns-in-Dispatcher
returns-in-Dispatcher c =
    rw c.in-Dispatcher.is (IfSome_then _ {Q = λ n. PartLays (air_from c.args.profile.now) (bit_at c.args.buf.now) Dispatcher c.args.at c.args.area.now c.lay_addresses.new.area n} c.lay_addresses.ensures (λ n x v l. dispatcher_lay (air_from c.args.profile.now) (bit_at c.args.buf.now) (bit_lt c.args.buf.now) c.args.area.now _ c.args.at _ v l x))

pub returns-in-Interrogation : goal.returns-in-Interrogation
returns-in-Interrogation c = rw c.in-Interrogation.is c.lay_state.ensures

pub returns-in-Areas : goal.returns-in-Areas
returns-in-Areas c = rw c.in-Areas.is c.lay_areas.ensures
