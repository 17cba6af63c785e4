-- `lvs_verdict::judge_inputs` meets its contract: what the callees answered says which case of `inputs` it is. Assumes nothing.
use Rattle.std.proofs.Common.{◌∙◌, sym, ap}
use Rattle.std.proofs.lemmas.Result.{err_from_is_err_and}
use Rattle.lvs_names.proofs.Read.{read_bad, read_good}
use Rattle.lvs_verdict.specs.Answers.{verdict_of}
use Rattle.lvs_verdict.proofs.Calls.{inputs_refused, inputs_bad_packet, inputs_bad_key, inputs_good, refused_of}
use Rattle.lvs_verdict.proofs.judge_inputs.Goals as goal

pub returns-in_err-judge_model : goal.returns-in_err-judge_model
returns-in_err-judge_model c =
    let p = err_from_is_err_and c.from_residual.result c.from_residual.ensures.1 in
    rw (p.1, p.2) (inputs_refused _ _ _ (sym c.judge_model.ensures ∙ ap verdict_of c.in_err-judge_model.was))

pub returns-in_err-packet : goal.returns-in_err-packet
returns-in_err-packet c =
    let p = err_from_is_err_and c.from_residual-in_err-packet.result c.from_residual-in_err-packet.ensures.1 in
    let of = c.read_name.ensures in
    let e = c.in_err-packet.was in
    rw (p.1, p.2)
    (refused_of of e (inputs_bad_packet _ _ _ (sym c.judge_model.ensures ∙ ap verdict_of c.in_ok-judge_model.was) (read_bad of e)))

pub returns-in_err-key : goal.returns-in_err-key
returns-in_err-key c =
    let p = err_from_is_err_and c.from_residual-in_err-key.result c.from_residual-in_err-key.ensures.1 in
    let of = c.read_name-2.ensures in
    let e = c.in_err-key.was in
    rw (p.1, p.2)
    (refused_of of e
    (inputs_bad_key _ _ _ (sym c.judge_model.ensures ∙ ap verdict_of c.in_ok-judge_model.was) _
    (read_good c.read_name.ensures c.in_ok-packet.was) (read_bad of e)))

pub returns : goal.returns
returns c =
    inputs_good _ _ _ (sym c.judge_model.ensures ∙ ap verdict_of c.in_ok-judge_model.was)
    c.read_name.ensures c.in_ok-packet.was c.read_name-2.ensures c.in_ok-key.was
