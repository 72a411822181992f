use Rattle.std.proofs.Common.{sym, refl, ◌∙◌}
use Rattle.codec.proofs.Good.{not_both}
use Rattle.console.proofs.CallLaws.{quick_0, quick_tail}
use Rattle.console.proofs.read_quickly.Goals as goal

pub returns-then-room-lt-BYTES : goal.returns-then-room-lt-BYTES
returns-then-room-lt-BYTES c = (λ e. refl, λ e. not_both e)

pub lay-requires : goal.lay-requires
lay-requires c = refl

pub put_area-requires : goal.put_area-requires
put_area-requires c =
    (c.if-room-lt-BYTES.false, quick_tail c.args.profile.now c.args.message.now c.args.bits c.args.value.now (sym c.passes.ensures ∙ c.if-passes.true) _ (c.lay.ensures c.if-lay.true))

pub returns-then-lay : goal.returns-then-lay
returns-then-lay c =
    (λ e. not_both (sym e), λ e. quick_0 c.args.profile.now c.args.message.now c.args.bits c.args.value.now (sym c.passes.ensures ∙ c.if-passes.true) _ (c.lay.ensures c.if-lay.true) c.if-room-lt-BYTES.false _ c.put_area.ensures)

pub returns-else-lay : goal.returns-else-lay
returns-else-lay c = (λ e. refl, λ e. not_both e)

pub returns-else-passes : goal.returns-else-passes
returns-else-passes c = (λ e. refl, λ e. not_both e)
