use mathlib.Core.Path.{refl, ◌∙◌}
use Rattle.sending.specs.Acks.{ack_of}
use Rattle.sending.proofs.ack_of.Goals.{then-masked, else-masked}
use Rattle.sending.proofs.ack_of.Goals as goal

pub returns : goal.returns
unfolding ack_of
returns c =
    c.ack_with.ensures ∙ rw (c.reason_of.ensures, c.result_of.ensures, ← c.is_several-masked.ensures) (elim c.if-masked.branch [
      | then-masked w ↦ rw (w.mask-is, w.if-masked.true, w.mask_at-mask.ensures) refl
      | else-masked w ↦ rw (w.mask-is, w.if-masked.false) refl
    ])
