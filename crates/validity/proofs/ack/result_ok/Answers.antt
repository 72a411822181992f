use Prim.Native.Nat.{◌≤◌}
use native.Mathlib.Omega.{arith}
use borrow.Author.Tests.{le-ltb}
use Rattle.codec.specs.Codec.{both, number}
use Rattle.message.specs.Acks.{result_c}
use Rattle.validity.proofs.ack.result_ok.Goals as goal

pub returns-in-0 : goal.returns-in-0
unfolding result_c number both
returns-in-0 c = rw c.in-0.is

pub returns-in-1 : goal.returns-in-1
unfolding result_c number both
returns-in-1 c = rw c.in-1.is

pub returns-in_default : goal.returns-in_default
unfolding result_c number both
returns-in_default c = let h : 2 ≤ c.args.res = omega arith in rw (le-ltb _ _ h)
