-- What the theorems over `read`, `write`, `Desk::open` and `step` take for known of an outcome is the function's own contract: `Reads` and
-- `Writes` of the round trips, the opened desk of a history, the step of a worked case. Each is by computation. Assumes nothing.
use mathlib.Core.Path.{◌≡◌, refl}
use Rattle.reading.specs.contracts.read as read
use Rattle.writing.specs.contracts.write as write
use Rattle.writing.proofs.RoundTrips.{Reads, Writes}
use Rattle.desk.specs.Desks.{open_of}
use Rattle.desk.specs.Steps.{step_of, area_after}
use Rattle.desk.specs.contracts.Desk.open as opened
use Rattle.desk.specs.contracts.step as step
use Rattle.contracts.specs.Outcomes.{Contract, saying_of}

-- `read` of a profile, bytes and a bit length
pub reads_is : ◌≡◌ {A = Contract read.ended} (λ M 𝓤. read.spec) (saying_of read.ended (λ κs a x e. Reads a.0 a.1.0.now a.1.1.0 x))
reads_is = refl

-- `write` of a profile and a value, into an area
pub writes_is : ◌≡◌ {A = Contract write.ended} (λ M 𝓤. write.spec)
    (saying_of write.ended (λ κs a x e. Writes a.0 a.1.0 a.1.1.0.now e.1.1.0.now x))
writes_is = refl

-- `Desk::open` of a profile
pub opens_is : ◌≡◌ {A = Contract opened.ended} (λ M 𝓤. opened.spec) (saying_of opened.ended (λ κs a x e. x ≡ open_of a.0))
opens_is = refl

-- `step` of a desk, records, their number, a message, an area and an event
pub steps_is : ◌≡◌ {A = Contract step.ended} (λ M 𝓤. step.spec)
    (saying_of step.ended (λ κs a x e. (x ≡ step_of a.0 a.1.0 a.1.1.0 a.1.1.1.0.now a.1.1.1.1.0.now a.1.1.1.1.1.0) × (e.1.1.1.1.0.now ≡ area_after a.0 a.1.0 a.1.1.0 a.1.1.1.0.now a.1.1.1.1.0.now a.1.1.1.1.1.0)))
steps_is = refl
