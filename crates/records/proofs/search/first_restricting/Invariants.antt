use Rattle.std.proofs.Common.{◌≡◌, None, get_or}
use Rattle.records.specs.Records.{record_of, restricted_of}
use Rattle.records.specs.Identities.{no_identity}
use Rattle.records.proofs.RecordLaws.{rec_left}
use Rattle.records.proofs.PartyLaws.{party_left}
use Rattle.records.proofs.search.first_restricting.Given as goal

abbrev pub invariant-loop-i : goal.invariant-loop-i
invariant-loop-i l = (l.post ≡ None) × (record_of l.rows (get_or l.parties l.k no_identity) ≡ rec_left l.rows (get_or l.parties l.k no_identity) l.i)

abbrev pub invariant-parties : goal.invariant-parties
invariant-parties l = (l.post ≡ None) × (restricted_of l.rows l.parties ≡ party_left l.rows l.parties l.k)
