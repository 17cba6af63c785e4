use Rattle.std.proofs.lemmas.Result.{err_from_is_err_and}
use Rattle.lvs_codec.proofs.Describes.{model_refused, model_described}
use Rattle.lvs_codec.proofs.describe_model.Goals as goal

pub returns-in_err-judge_model : goal.returns-in_err-judge_model
returns-in_err-judge_model c =
    let p = err_from_is_err_and c.from_residual.result c.from_residual.ensures.1 in rw (p.1, p.2) (model_refused _ _ _ _ c.in_err-judge_model.ensures)

pub returns : goal.returns
returns c = model_described _ _ _ c.in_ok-judge_model.ensures c.describe.ensures c.ok_or.ensures.value
