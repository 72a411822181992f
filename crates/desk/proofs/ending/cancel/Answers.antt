use mathlib.Core.Path.{refl}
use Rattle.std.proofs.lemmas.Bool.{not-true, not-false}
use Rattle.desk.proofs.EndLaws.{cancel_16, cancel_14, cancel_19, cancel_done, decided}
use Rattle.desk.proofs.KeepLaws.{refused_plain}
use Rattle.desk.proofs.NoticeLaws.{cancel_sends}
use Rattle.desk.proofs.ending.cancel.Goals as goal

pub returns-then-identifier-ge16384 : goal.returns-then-identifier-ge16384
returns-then-identifier-ge16384 c =
    refused_plain _ _ _ _ _ _ _ refl c.refuse.ensures (cancel_16 _ _ _ c.if-identifier-ge16384.true)

pub returns-then-out-lt300 : goal.returns-then-out-lt300
returns-then-out-lt300 c =
    refused_plain _ _ _ _ _ _ _ refl c.refuse-then-out-lt300.ensures (cancel_14 _ _ _ c.if-identifier-ge16384.false c.if-out-lt300.true)

pub returns-then-not-waiting : goal.returns-then-not-waiting
returns-then-not-waiting c =
    refused_plain _ _ _ _ _ _ _ refl c.refuse-then-not-waiting.ensures (cancel_19 _ _ _ c.if-identifier-ge16384.false c.if-out-lt300.false c.place_of-waiting.result c.place_of-waiting.ensures (not-true _ c.if-not-waiting.true))

pub returns : goal.returns
returns c =
    let f = cancel_done _ _ _ c.if-identifier-ge16384.false c.if-out-lt300.false c.place_of-waiting.result c.place_of-waiting.ensures (not-false _ c.if-not-waiting.false) _ c.place_at-p.ensures in
    decided _ _ _ _ _ _ _ _ _ _ f.0 refl refl f.1
    c.requires (cancel_sends _ c.requires _ c.if-identifier-ge16384.false) c.if-out-lt300.false c.cancel-cancel.ensures c.ended.ensures
