use Rattle.std.proofs.Common.{◌≡◌, ℕ, ◌+◌, ◌*◌, ◌/◌, ◌%◌, List, set, refl, ap, ◌∙◌, arith, eqb-true}
use Rattle.codec.proofs.Good.{not_both}
use Rattle.console.proofs.LayLaws.{head_is}
use Rattle.layouts.proofs.RowReads.{reads_of}
use Rattle.console.proofs.lay.lay.Goals as goal

pub returns-then-bits-lt11 : goal.returns-then-bits-lt11
returns-then-bits-lt11 c = λ e. not_both e

pub overflow_mul-head : goal.overflow_mul-head
overflow_mul-head c = omega arith

pub overflow_add-head : goal.overflow_add-head
overflow_add-head c = omega arith

pub returns-then-head-from : goal.returns-then-head-from
returns-then-head-from c = λ e. not_both e

pub lay_row-requires : goal.lay_row-requires
lay_row-requires c =
    (ap (λ (x : List ℕ). set x 0 ((c.from.result * 8 + c.from-2.result / 32) % 32)) c.requires, c.if-bits-gt4096.false)

pub returns : goal.returns
returns c = λ e.
    let same : c.in-Some.next ≡ c.args.bits = eqb-true _ _ e in
    reads_of c.args.profile.now c.args.buf.now c.args.bits _ _ _ (head_is c.args.buf.now _ _ (c.from.ensures ∙ c.byte_at.ensures) (omega arith) (c.from-2.ensures ∙ c.byte_at-2.ensures) (omega arith)) c.if-head-from.false (c.from-3.ensures ∙ c.byte_at-3.ensures) refl _ _ c.in-Some.ensures same c.if-bits-gt4096.false c.if-bits-buf.false
