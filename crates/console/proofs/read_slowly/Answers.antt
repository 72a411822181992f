use Rattle.std.proofs.Common.{sym, refl, ◌∙◌, arith}
use Rattle.std.proofs.lemmas.Result.{err_from_is_err_and}
use Rattle.console.proofs.CallLaws.{read_1, read_14, read_0, read_no}
use Rattle.layouts.proofs.ListLaws.{no_lists_lem}
use Rattle.writing.proofs.RoundTrips.{read_valid}
use Rattle.console.proofs.read_slowly.Goals as goal

pub returns-then-not-is_profile : goal.returns-then-not-is_profile
returns-then-not-is_profile c = rw c.refuse.ensures (read_1 _ _ _ _ (sym c.is_profile.ensures ∙ c.if-not-is_profile.true))

pub returns-in_err-read : goal.returns-in_err-read
returns-in_err-read c =
    let p = err_from_is_err_and c.from_residual.result c.from_residual.ensures.1 in
    rw (p.1, p.2)
    (read_no _ _ _ _ (sym c.is_profile.ensures ∙ c.if-not-is_profile.false) _ c.profile_from.ensures _ c.in_err-read.ensures _ refl)

pub returns-then-value-lt-BYTES : goal.returns-then-value-lt-BYTES
returns-then-value-lt-BYTES c =
    rw c.refuse-then-value-lt-BYTES.ensures
    (read_14 _ _ _ _ (sym c.is_profile.ensures ∙ c.if-not-is_profile.false) _ c.profile_from.ensures _ c.in_ok-read.ensures _ refl c.if-value-lt-BYTES.true)

pub put_value-requires : goal.put_value-requires
put_value-requires c = (omega arith, no_lists_lem _ _ (read_valid _ _ _ _ _ c.in_ok-read.ensures refl))

pub returns : goal.returns
returns c =
    read_0 _ _ _ _ (sym c.is_profile.ensures ∙ c.if-not-is_profile.false) _ c.profile_from.ensures _ c.in_ok-read.ensures _ refl c.if-value-lt-BYTES.false _ c.put_value.ensures
