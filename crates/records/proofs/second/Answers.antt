use mathlib.Core.Path.{sym, ◌∙◌}
use Rattle.records.proofs.PartyLaws.{second_there, second_same, second_free}
use Rattle.records.proofs.second.Goals.{then-is_some+then-ne, else-is_some, else-is_some-via-then-is_some+else-ne, else-is_some-via-else-is_some}
use Rattle.records.proofs.second.Goals as goal

pub returns : goal.returns
returns c = c.party_of.ensures ∙ rw (← c.lent-lent.ensures) (elim c.if-is_some.branch [
  | then-is_some+then-ne w ↦ rw w.party_of-is (second_there _ _ _ _ _ c.restricting-first.ensures c.restricting-other.ensures (sym c.is_some.ensures ∙ w.if-is_some.true) (sym w.ne.ensures ∙ w.if-ne.true))
  | else-is_some w ↦ rw w.party_of-is (elim w.else-is_some.branch [
    | else-is_some-via-then-is_some+else-ne v ↦ second_same _ _ _ _ _ c.restricting-first.ensures c.restricting-other.ensures (sym c.is_some.ensures ∙ v.if-is_some.true) (sym v.ne.ensures ∙ v.if-ne.false)
    | else-is_some-via-else-is_some v ↦ second_free _ _ _ _ _ c.restricting-first.ensures c.restricting-other.ensures (sym c.is_some.ensures ∙ v.if-is_some.false)
  ])
])
