use Rattle.std.proofs.Common.{sym, ◌∙◌, arith, rules}
use Rattle.layouts.proofs.PassLaws.{passed_none, passed_not, row_left, passed_more, passed_spare, passed_end}
use Rattle.console.proofs.profiles.rows_pass.Goals as goal

pub loop-p-init : goal.loop-p-init
loop-p-init c =
    (search rules, passed_none c.args.l.now (search rules) _ c.rows_total-rest.ensures)

pub overflow_sub-rest : goal.overflow_sub-rest
overflow_sub-rest c =
    row_left c.args.l.now c.loop-p.p _ _ (omega arith) c.from-reserved.ensures c.from-ceiling.ensures (search rules) c.loop-p.all c.loop-p.rest c.loop-p.invariant.1

pub loop-p-preserved : goal.loop-p-preserved
loop-p-preserved c =
    (search rules, passed_more c.args.l.now c.loop-p.p _ _ (omega arith) c.from-reserved.ensures c.from-ceiling.ensures (search rules) c.loop-p.all c.loop-p.rest c.loop-p.invariant.1 (sym c.share_passes.ensures ∙ c.if-not-share_passes.false))

pub returns-then-not-share_passes : goal.returns-then-not-share_passes
returns-then-not-share_passes c =
    passed_not c.args.l.now c.loop-p.p _ _ (omega arith) c.from-reserved.ensures c.from-ceiling.ensures c.args.posts (search rules) (sym c.share_passes.ensures ∙ c.if-not-share_passes.true)

pub returns-then-rest-ne0 : goal.returns-then-rest-ne0
returns-then-rest-ne0 c =
    passed_spare c.args.l.now c.args.posts c.loop-p.p c.loop-p.all c.loop-p.rest c.loop-p.invariant.1 (omega arith) c.if-rest-ne0.true

pub returns : goal.returns
returns c =
    passed_end c.args.l.now c.args.posts c.loop-p.p c.loop-p.all c.loop-p.rest c.loop-p.invariant.1 (omega arith) c.if-rest-ne0.false
