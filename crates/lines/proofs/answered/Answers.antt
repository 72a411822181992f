use Rattle.std.proofs.Common.{ℕ, List, sym, ap, ◌∙◌, rules}
use Rattle.lines.proofs.SayLaws.{said_found, said_refused, type_sample}
use Rattle.lines.specs.Saying.{text_of}
use Rattle.lines.proofs.answered.Goals as goal

pub returns-in-Ok : goal.returns-in-Ok
returns-in-Ok c =
    let r = type_sample _ _ c.args.room.now c.args.bits c.sample_profile.ensures c.in-Ok.ensures (search rules) (search rules) (search rules) in
    c.named.ensures ∙ ap (λ (xs : List ℕ). text_of xs) (sym (said_found _ _ r))

pub returns-in-Err : goal.returns-in-Err
returns-in-Err c =
    let r = type_sample _ _ c.args.room.now c.args.bits c.sample_profile.ensures c.in-Err.ensures (search rules) (search rules) (search rules) in
    c.stopped.ensures ∙ ap (λ (xs : List ℕ). text_of xs) (sym (said_refused _ _ r))
