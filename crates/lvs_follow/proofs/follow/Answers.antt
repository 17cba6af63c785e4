-- `lvs_follow::follow` meets its contract: what the callees answered says which case of `follow_answer` it is. Assumes nothing.
use Rattle.std.proofs.Common.{sym, ap}
use Rattle.std.proofs.lemmas.Result.{err_from_is_err_and}
use Rattle.lvs_edges.proofs.Ordered.{walkable}
use Rattle.lvs_verdict.proofs.Calls.{judged_good, judged_bad}
use Rattle.lvs_follow.proofs.Pairs.{follow_refused, follow_length, follow_decided}
use Rattle.lvs_follow.proofs.follow.Goals as goal

pub returns-in_err-rows : goal.returns-in_err-rows
returns-in_err-rows c =
    let p = err_from_is_err_and c.from_residual.result c.from_residual.ensures.1 in
    rw (p.1, p.2) (sym (follow_refused _ _ _ c.args.path.now (judged_bad _ _ _ c.judge_inputs.ensures c.in_err-rows.was)))

pub returns-then-path-rows : goal.returns-then-path-rows
returns-then-path-rows c =
    let a = c.args in
    sym (follow_length a.model.now a.packet.now a.key.now a.path.now (judged_good c.judge_inputs.ensures c.in_ok-rows.was) c.if-path-rows.true)

pub of-nodes-requires : goal.of-nodes-requires
of-nodes-requires c = walkable c.args.model.now (judged_good c.judge_inputs.ensures c.in_ok-rows.was).accepted

pub returns : goal.returns
returns c =
    let a = c.args in
    let same = ap (λ b. b.now) c.of-nodes.ensures in
    sym (follow_decided a.model.now a.packet.now a.key.now a.path.now (judged_good c.judge_inputs.ensures c.in_ok-rows.was) (rw same at c.follow_pair.ensures))
