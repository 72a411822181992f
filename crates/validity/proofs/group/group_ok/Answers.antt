use mathlib.Core.Path.{sym, ◌∙◌}
use Rattle.codec.specs.Codec.{both}
use Rattle.message.proofs.GroupLaws.{few_addresses, range_allowed}
use Rattle.message.specs.Groups.{group_c}
use Rattle.validity.proofs.group.group_ok.Goals as goal

pub addresses_ok-requires : goal.addresses_ok-requires
addresses_ok-requires c =
    rw c.meaning_of.ensures (few_addresses _ _ (range_allowed _ _ _ (sym c.range_ok.ensures ∙ c.if-range_ok.true)))

pub returns-then-range_ok : goal.returns-then-range_ok
unfolding group_c both
returns-then-range_ok c = rw (sym c.range_ok.ensures ∙ c.if-range_ok.true, ← c.meaning_of.ensures) c.addresses_ok.ensures

pub returns-else-range_ok : goal.returns-else-range_ok
unfolding group_c both
returns-else-range_ok c = rw (c.if-range_ok.false, sym c.range_ok.ensures ∙ c.if-range_ok.false)
