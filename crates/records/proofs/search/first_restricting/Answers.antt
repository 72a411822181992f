use Rattle.std.proofs.Common.{rules, sym, refl, ◌∙◌}
use Rattle.records.specs.Identities.{no_identity}
use Rattle.records.specs.Records.{row_of}
use Rattle.records.proofs.RecordLaws.{rec_start, rec_more, rec_here, rec_end}
use Rattle.records.proofs.PartyLaws.{party_start, party_end, party_none, party_free, party_here}
use Rattle.records.proofs.search.first_restricting.Goals as goal

pub parties-init : goal.parties-init
parties-init c = (refl, party_start _ _)

pub loop-i-init : goal.loop-i-init
loop-i-init c = (c.parties.invariant.0, rec_start _ _)

pub parties-preserved-then-is_of : goal.parties-preserved-then-is_of
unfolding row_of
parties-preserved-then-is_of c = (
  c.loop-i.invariant.0,
  party_free _ _ _ _ c.parties.invariant.1 no_identity (search rules) c.loop-i.i
      (rec_here _ _ _ _ c.loop-i.invariant.1 (search rules) (sym c.is_of.ensures ∙ c.if-is_of.true)) c.if-rows-i.false,
)

pub loop-i-preserved : goal.loop-i-preserved
loop-i-preserved c =
    (c.loop-i.invariant.0, rec_more _ _ _ _ c.loop-i.invariant.1 (search rules) (sym c.is_of.ensures ∙ c.if-is_of.false))

pub parties-preserved : goal.parties-preserved
parties-preserved c =
    (c.loop-i.invariant.0, party_none _ _ _ _ c.parties.invariant.1 no_identity (search rules) (rec_end _ _ _ _ c.loop-i.invariant.1 (search rules)))

pub returns-after-parties : goal.returns-after-parties
returns-after-parties c = rw c.parties.invariant.0 (party_end _ _ _ _ c.parties.invariant.1 (search rules))

pub returns-then-rows-i : goal.returns-then-rows-i
unfolding row_of
returns-then-rows-i c =
    party_here _ _ _ _ c.parties.invariant.1 no_identity (search rules) c.loop-i.i
    (rec_here _ _ _ _ c.loop-i.invariant.1 (search rules) (sym c.is_of.ensures ∙ c.if-is_of.true)) c.if-rows-i.true
