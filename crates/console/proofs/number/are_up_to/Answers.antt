use Rattle.std.proofs.Common.{sym, arith, rules, le-leb}
use borrow.Author.Tests.{lt-leb}
use Rattle.profile.proofs.CountLaws.{every_none, every_more, every_not, every_end}
use Rattle.console.proofs.number.are_up_to.Goals as goal

pub loop-r-init : goal.loop-r-init
loop-r-init c = every_none _

pub returns-then-byte_at-most : goal.returns-then-byte_at-most
returns-then-byte_at-most c =
    sym (every_not _ _ c.loop-r.r (search rules) (rw (← c.byte_at.ensures) (lt-leb _ _ c.if-byte_at-most.true)))

pub loop-r-preserved : goal.loop-r-preserved
loop-r-preserved c =
    every_more _ _ c.loop-r.invariant (rw (← c.byte_at.ensures) (le-leb _ _ c.if-byte_at-most.false))

pub returns : goal.returns
returns c = every_end _ c.loop-r.r _ c.loop-r.invariant (omega arith)
