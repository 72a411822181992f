use native.Mathlib.Omega.{arith}
use Rattle.places.proofs.HeldLaws.{used_few}
use Rattle.places.specs.Held.{free_of}
use Rattle.places.proofs.count.free.Goals as goal

pub overflow_sub-result : goal.overflow_sub-result
overflow_sub-result c = omega (arith, c.used.ensures, used_few c.args.list)

pub returns : goal.returns
unfolding free_of
returns c = rw c.used.ensures
