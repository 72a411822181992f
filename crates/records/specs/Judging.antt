-- What a request to change marks comes to: its outcomes, sorted for the ACKs, and whose mark changes.
use Rattle.std.specs.Prelude.{ℕ, Bool, List}
use Rattle.profile.specs.declared.Air.{Air}
use Rattle.message.specs.declared.Group.{Group}
use Rattle.records.specs.declared.Record.{Record}
use Rattle.records.specs.declared.Judged.{Judged}
use Rattle.records.specs.Identities.{identities_of}
use Rattle.records.specs.Outcomes.{outcomes_of, sorted_of}
use Rattle.records.specs.Marking.{marks_of}

unfoldable pub judged_of : Bool → Air → Group → List Record → ℕ → Judged
judged_of to air g rows post = record { sorted = sorted_of (outcomes_of air g rows post); marks = marks_of to rows post (identities_of air g) }
