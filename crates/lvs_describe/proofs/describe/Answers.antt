use Rattle.std.proofs.Common.{refl, rules}
use Rattle.lvs_describe.proofs.Whole.{too_short, all_put}
use Rattle.lvs_describe.proofs.describe.Goals as goal

pub returns-in_err-put_model : goal.returns-in_err-put_model
returns-in_err-put_model c =
    rw c.from_residual.ensures (too_short _ _ _ (record { numbers_all = refl; texts_all = refl }) c.in_err-put_model.ensures)

pub returns : goal.returns
returns c =
    all_put _ _ _ (record { numbers_all = refl; texts_all = refl }) c.in_ok-put_model.ensures (record { numbers_all = refl; texts_all = refl }) refl refl
    c.put_model-2.ensures (search rules) (search rules)
