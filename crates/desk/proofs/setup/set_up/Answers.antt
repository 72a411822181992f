use mathlib.Core.Path.{refl, sym, ◌∙◌}
use Rattle.std.proofs.lemmas.Bool.{not-true, not-false}
use Rattle.desk.proofs.KeepLaws.{refused_plain, free_plain, same_plain}
use Rattle.desk.proofs.SetUpLaws.{setup_16, setup_14, setup_15, setup_17, setup_party, party_free, party_admit, setup_identifier, setup_cause}
use Rattle.desk.proofs.setup.set_up.Goals as goal

pub returns-then-not-set_up_ok : goal.returns-then-not-set_up_ok
returns-then-not-set_up_ok c =
    refused_plain _ _ _ _ _ _ _ refl c.refuse.ensures (setup_16 _ _ _ _ _ _ _ _ (sym c.set_up_ok.ensures ∙ c.if-not-set_up_ok.true))

pub returns-then-out-lt300 : goal.returns-then-out-lt300
returns-then-out-lt300 c =
    refused_plain _ _ _ _ _ _ _ refl c.refuse-then-out-lt300.ensures
    (setup_14 _ _ _ _ _ _ _ _ (sym c.set_up_ok.ensures ∙ c.if-not-set_up_ok.false) c.if-out-lt300.true)

pub returns-then-not-records_ok : goal.returns-then-not-records_ok
returns-then-not-records_ok c =
    refused_plain _ _ _ _ _ _ _ refl c.refuse-then-not-records_ok.ensures
    (setup_15 _ _ _ _ _ _ _ _ (sym c.set_up_ok.ensures ∙ c.if-not-set_up_ok.false) c.if-out-lt300.false (sym c.records_ok.ensures ∙ c.if-not-records_ok.true))

pub returns-then-waiting : goal.returns-then-waiting
returns-then-waiting c =
    refused_plain _ _ _ _ _ _ _ refl c.refuse-then-waiting.ensures
    (setup_17 _ _ _ _ _ _ _ _ (sym c.set_up_ok.ensures ∙ c.if-not-set_up_ok.false) c.if-out-lt300.false (sym c.records_ok.ensures ∙ c.if-not-records_ok.false)
    c.place_of-waiting.result c.place_of-waiting.ensures c.if-waiting.true)

pub returns-then-not-party : goal.returns-then-not-party
returns-then-not-party c =
    let e = setup_party _ _ _ _ _ _ _ _ (sym c.set_up_ok.ensures ∙ c.if-not-set_up_ok.false) c.if-out-lt300.false (sym c.records_ok.ensures ∙ c.if-not-records_ok.false)
    c.place_of-waiting.result c.place_of-waiting.ensures c.if-waiting.false c.restricted-party.result c.restricted-party.ensures ∙ party_free _ c.restricted-party.result (not-true _ c.if-not-party.true) in
    free_plain _ _ _ _ _ c.keeps.ensures e

pub admit-requires : goal.admit-requires
admit-requires c =
    let e = sym c.set_up_ok.ensures ∙ c.if-not-set_up_ok.false in
    (c.requires, (setup_identifier _ _ _ _ e, (setup_cause _ _ _ _ e, c.if-out-lt300.false)))

pub returns : goal.returns
returns c =
    let e = setup_party _ _ _ _ _ _ _ _ (sym c.set_up_ok.ensures ∙ c.if-not-set_up_ok.false) c.if-out-lt300.false (sym c.records_ok.ensures ∙ c.if-not-records_ok.false)
    c.place_of-waiting.result c.place_of-waiting.ensures c.if-waiting.false c.restricted-party.result c.restricted-party.ensures ∙ party_admit _ c.restricted-party.result (not-false _ c.if-not-party.false) in
    same_plain _ _ _ _ _ _ _ e (rw c.second-second.ensures at c.admit.ensures)
