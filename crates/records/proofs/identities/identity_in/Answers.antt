use Rattle.records.proofs.IdentityLaws.{range_in}
use Rattle.records.proofs.identities.identity_in.Goals as goal

pub identity_after-requires : goal.identity_after-requires
identity_after-requires c = range_in _ _ _ _ _ c.in-FirstLast.is c.requires c.identity_of-in-FirstLast.ensures
