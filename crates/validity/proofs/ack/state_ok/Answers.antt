use Prim.Native.Nat.{◌<◌}
use native.Mathlib.Omega.{arith}
use borrow.Author.Tests.{lt-leb}
use Rattle.codec.specs.Codec.{both}
use Rattle.validity.specs.Parts.{accepted_ok, not_accepted_ok}
use Rattle.validity.proofs.ValidLaws.{state_by_lem}
use Rattle.validity.proofs.ack.state_ok.Goals as goal

pub returns-in-0 : goal.returns-in-0
unfolding both not_accepted_ok
returns-in-0 c = rw (state_by_lem _, c.in-0.is) c.not_accepted_ok.ensures

pub returns-in-1 : goal.returns-in-1
unfolding both accepted_ok
returns-in-1 c = rw (state_by_lem _, c.in-1.is) c.accepted_ok.ensures

pub returns-in_default : goal.returns-in_default
unfolding both
returns-in_default c = let h : 1 < c.args.s.result = omega arith in rw (state_by_lem _, lt-leb _ _ h)
