-- `lvs::suggest` meets its contract: what the callees answered says which case of `suggest_answer` it is. Assumes nothing.
use Rattle.std.proofs.Common.{sym, ap, ◌∙◌, arith}
use Rattle.std.proofs.lemmas.Result.{err_from_is_err_and}
use Rattle.lvs_spec.specs.Model.{model_of}
use Rattle.lvs_spec.specs.Names.{packet_name}
use Rattle.lvs_spec.specs.Certificates.{allows, suggested}
use Rattle.lvs_names.proofs.Read.{read_bad, read_good, read_plain}
use Rattle.lvs_edges.proofs.Ordered.{walkable}
use Rattle.lvs_verdict.specs.Answers.{verdict_of}
use Rattle.lvs.proofs.Calls.{suggest_refused, suggest_bad_packet, suggest_bad_list, suggest_found, index_few}
use Rattle.lvs.proofs.suggest.Goals as goal

pub returns-in_err-judge_model : goal.returns-in_err-judge_model
returns-in_err-judge_model c =
    let p = err_from_is_err_and c.from_residual.result c.from_residual.ensures.1 in
    rw (p.1, p.2) (sym (suggest_refused _ _ _ (sym c.judge_model.ensures ∙ ap verdict_of c.in_err-judge_model.was)))

pub returns-in_err-row : goal.returns-in_err-row
returns-in_err-row c =
    let p = err_from_is_err_and c.from_residual-in_err-row.result c.from_residual-in_err-row.ensures.1 in
    rw (p.1, p.2)
    (sym (suggest_bad_packet _ _ _ (sym c.judge_model.ensures ∙ ap verdict_of c.in_ok-judge_model.was)
    (read_plain c.read_name.ensures c.in_err-row.was) (read_bad c.read_name.ensures c.in_err-row.was)))

pub returns-in_err-read_list : goal.returns-in_err-read_list
returns-in_err-read_list c =
    let p = err_from_is_err_and c.from_residual-in_err-read_list.result c.from_residual-in_err-read_list.ensures.1 in
    rw (p.1, p.2)
    (sym (suggest_bad_list _ _ _ (sym c.judge_model.ensures ∙ ap verdict_of c.in_ok-judge_model.was) (read_good c.read_name.ensures c.in_ok-row.was)
    (sym c.in_err-read_list.was ∙ c.read_list.ensures)))

pub of-nodes-requires : goal.of-nodes-requires
of-nodes-requires c = walkable c.args.model.now (sym c.judge_model.ensures ∙ ap verdict_of c.in_ok-judge_model.was)

pub first_allowed-requires-clause-good_packet : goal.first_allowed-requires-clause-good_packet
unfolding packet_name
first_allowed-requires-clause-good_packet c = read_good c.read_name.ensures c.in_ok-row.was

pub overflow_cast-result : goal.overflow_cast-result
overflow_cast-result c =
    let few = index_few (allows (model_of c.of-nodes.result.model.now) c.args.packet.now) c.args.list.now (sym c.in_ok-read_list.was ∙ c.read_list.ensures)
    (sym c.in-Some.is ∙ c.first_allowed.ensures) in
    omega (arith, few)

pub returns-in-Some : goal.returns-in-Some
unfolding suggested
returns-in-Some c =
    let same = ap (λ m. m.now) c.of-nodes.ensures in
    sym (suggest_found _ _ _ (sym c.judge_model.ensures ∙ ap verdict_of c.in_ok-judge_model.was) (read_good c.read_name.ensures c.in_ok-row.was)
    (sym c.in_ok-read_list.was ∙ c.read_list.ensures) (rw (same, c.in-Some.is) at c.first_allowed.ensures))

pub returns-in-None : goal.returns-in-None
unfolding suggested
returns-in-None c =
    let same = ap (λ m. m.now) c.of-nodes.ensures in
    sym (suggest_found _ _ _ (sym c.judge_model.ensures ∙ ap verdict_of c.in_ok-judge_model.was) (read_good c.read_name.ensures c.in_ok-row.was)
    (sym c.in_ok-read_list.was ∙ c.read_list.ensures) (rw (same, c.in-None.is) at c.first_allowed.ensures))
