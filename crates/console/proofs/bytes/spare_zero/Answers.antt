use Rattle.std.proofs.Common.{ℕ, ◌+◌, ◌*◌, ◌/◌, ◌%◌, ◌^◌, sym, ap, ◌∙◌, arith, eqb-true}
use Rattle.codec.proofs.Good.{not_both}
use Rattle.console.proofs.DrawLaws.{spare_bits}
use Rattle.console.proofs.bytes.spare_zero.Goals as goal

pub returns-then-i-l : goal.returns-then-i-l
returns-then-i-l c =
    let at = c.args.at in
    λ e. spare_bits c.args.l.now at (omega (arith, c.shared_slice_known-1.given (at / 8)))
    (sym (ap (λ (x : ℕ). x * 2 ^ (56 + at % 8) % 2 ^ 64) c.from.ensures) ∙ eqb-true _ _ e)

pub returns : goal.returns
returns c = λ e. not_both e
