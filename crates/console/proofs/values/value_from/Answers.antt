use Rattle.std.proofs.Common.{◌∙◌}
use Rattle.layouts.proofs.ByteLaws.{value_from_all}
use Rattle.console.proofs.values.value_from.Goals as goal

pub returns : goal.returns
returns c =
    value_from_all c.args.l.now _ _ _ _ _ _ _ _ _ _ _ _ _ _ _ _ _ _ _ _ _ _ _ _ c.group_at.ensures c.group_at-2.ensures c.two_at.ensures (c.from.ensures ∙ c.byte_at-2.ensures) (c.from-2.ensures ∙ c.byte_at-3.ensures) (c.from-3.ensures ∙ c.byte_at-4.ensures) c.three_at.ensures (c.from-4.ensures ∙ c.byte_at-5.ensures) (c.from-5.ensures ∙ c.byte_at-6.ensures) (c.from-6.ensures ∙ c.byte_at-7.ensures) (c.from-7.ensures ∙ c.byte_at-8.ensures) (c.from-8.ensures ∙ c.byte_at-9.ensures) (c.from-9.ensures ∙ c.byte_at-10.ensures) c.lists_from.ensures c.byte_at-12.ensures c.byte_at-13.ensures c.byte_at-14.ensures c.byte_at-15.ensures c.byte_at-16.ensures c.byte_at-17.ensures c.byte_at-18.ensures c.byte_at.ensures c.byte_at-11.ensures c.number_at.ensures.0
