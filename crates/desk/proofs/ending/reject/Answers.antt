use native.Mathlib.Omega.{arith}
use mathlib.Core.Path.{refl}
use Rattle.desk.proofs.EndLaws.{reject_2, reject_16, reject_decide}
use Rattle.desk.proofs.KeepLaws.{refused_plain, same_plain}
use Rattle.desk.proofs.ending.reject.Goals as goal

pub returns-then-post-desk : goal.returns-then-post-desk
returns-then-post-desk c =
    refused_plain _ _ _ _ _ _ _ refl c.refuse.ensures (reject_2 _ _ _ _ c.if-post-desk.true)

pub returns-then-identifier-ge16384 : goal.returns-then-identifier-ge16384
returns-then-identifier-ge16384 c =
    refused_plain _ _ _ _ _ _ _ refl c.refuse-then-identifier-ge16384.ensures (reject_16 _ _ _ _ c.if-post-desk.false c.if-identifier-ge16384.true)

pub rejected-requires : goal.rejected-requires
rejected-requires c = (c.requires, omega arith)

pub returns : goal.returns
returns c =
    same_plain _ _ _ _ _ _ _ (reject_decide _ _ _ _ c.if-post-desk.false c.if-identifier-ge16384.false) c.rejected.ensures
