use Rattle.std.proofs.Common.{ℕ, ◌+◌, List, ap, ◌∙◌}
use lib.Seq.{sets}
use Rattle.layouts.proofs.RunLaws.{stored_two, stored_one}
use Rattle.layouts.specs.Bytes.{number_bytes}
use Rattle.console.proofs.group.lay_kind.Goals as goal

pub returns-then-kind-eq2 : goal.returns-then-kind-eq2
returns-then-kind-eq2 c = stored_two c.if-kind-eq2.true c.put_run.ensures

pub returns-then-kind-eq1 : goal.returns-then-kind-eq1
returns-then-kind-eq1 c =
    stored_one c.if-kind-eq1.true (c.put_run-then-kind-eq1.ensures ∙ ap (λ (m : List ℕ). sets m (c.args.p + 4) (number_bytes 4 0)) c.put_run.ensures)
