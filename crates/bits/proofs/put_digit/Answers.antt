-- `bits::put_digit` meets its contract: the byte with one digit replaced is a byte again, and stands in its place.
use native.Mathlib.Omega.{arith}
use Rattle.bits.proofs.PutLaws.{one_shifted, byte_digit_lt}
use Rattle.bits.specs.Puts.{with_digit}
use Rattle.bits.proofs.put_digit.Goals as goal

pub overflow_cast-out : goal.overflow_cast-out
overflow_cast-out c =
    let p = c.requires in
    record { fits = byte_digit_lt (one_shifted c.args.k (omega arith)) (omega arith) p.1.0 p.1.1 }

pub returns : goal.returns
unfolding with_digit
returns c = rw (one_shifted c.args.k (omega arith), c.from-x.ensures)
