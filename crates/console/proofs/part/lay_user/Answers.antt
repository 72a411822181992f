use Rattle.std.proofs.Common.{arith}
use Rattle.std.proofs.lemmas.Option.{IfSome_then}
use Rattle.bits.proofs.FieldLaws.{bit_lt}
use Rattle.bits.specs.Fields.{bit_at}
use Rattle.layouts.proofs.PartLaws.{user_lay}
use Rattle.layouts.proofs.RowReads.{PartLays}
use Rattle.layouts.specs.Profiles.{air_from}
use Rattle.message.specs.declared.Part.TheVariants.{User}
use Rattle.console.proofs.part.lay_user.Goals as goal

pub lay_addresses-requires : goal.lay_addresses-requires
lay_addresses-requires c = (omega (arith, c.if-place-gt14.false), omega (arith, c.requires))

pub returns : goal.returns
returns c =
    IfSome_then _ {Q = λ n. PartLays (air_from c.args.profile.now) (bit_at c.args.buf.now) (User c.args.place) c.args.at c.args.area.now c.lay_addresses.new.area n} c.lay_addresses.ensures
    (λ n x v l. user_lay (air_from c.args.profile.now) (bit_at c.args.buf.now) (bit_lt c.args.buf.now) c.args.area.now _ c.args.at _ v l c.args.place (omega (arith, c.if-place-gt14.false)) x)
