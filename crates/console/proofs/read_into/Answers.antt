use Rattle.console.proofs.CallLaws.{refused_leaves, same_stop}
use Rattle.console.proofs.read_into.Goals as goal

pub returns-then-read_quickly : goal.returns-then-read_quickly
returns-then-read_quickly c = c.read_quickly.ensures.1 c.if-read_quickly.true

pub returns-in-Some : goal.returns-in-Some
returns-in-Some c =
    same_stop c.args.profile.now c.args.message.now c.args.bits c.args.value.now _ (c.read_quickly.ensures.0 c.if-read_quickly.false) _ _ (refused_leaves _ _ _ _ _ c.in-Some.ensures)

pub returns : goal.returns
returns c =
    same_stop c.args.profile.now c.args.message.now c.args.bits c.args.value.now _ (c.read_quickly.ensures.0 c.if-read_quickly.false) _ _ c.read_slowly.ensures
