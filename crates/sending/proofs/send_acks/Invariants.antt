use Rattle.std.proofs.Common.{◌≡◌}
use Rattle.sending.proofs.SendLaws.{acks_to}
use Rattle.sending.specs.Sending.{no_laid, all_laid, all_area}
use Rattle.sending.proofs.send_acks.Given as goal

abbrev pub invariant-loop-class : goal.invariant-loop-class
invariant-loop-class l =
    (l.laid ≡ all_laid l.profile no_laid l.initial.out (acks_to l.profile.air l.ack l.users l.sorted l.class))
    × (l.out ≡ all_area l.profile no_laid l.initial.out (acks_to l.profile.air l.ack l.users l.sorted l.class))
