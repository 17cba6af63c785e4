use Rattle.lvs_describe.proofs.Puts.{describes_then, describes_stop, describes_as}
use Rattle.lvs_describe.proofs.Containers.{model_is}
use Rattle.lvs_describe.proofs.put_model.Goals as goal

pub returns-in_err-pair : goal.returns-in_err-pair
returns-in_err-pair c =
    rw c.from_residual.ensures (describes_as (model_is _ c.number_in-start.ensures c.number_in-count.ensures) (describes_stop _ c.in_err-pair.ensures))

pub returns-in_err-put_row : goal.returns-in_err-put_row
returns-in_err-put_row c =
    rw c.from_residual-in_err-put_row.ensures (describes_as (model_is _ c.number_in-start.ensures c.number_in-count.ensures)
    (describes_then c.in_ok-pair.ensures (describes_stop _ c.in_err-put_row.ensures)))

pub returns : goal.returns
returns c =
    describes_as (model_is _ c.number_in-start.ensures c.number_in-count.ensures) (describes_then c.in_ok-pair.ensures
    (describes_then c.in_ok-put_row.ensures c.put_row-2.ensures))
