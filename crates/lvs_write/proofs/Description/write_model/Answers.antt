use Rattle.std.proofs.Common.{rules}
use Rattle.lvs_write.proofs.Moves.{wrote_as, then_wrote, stop_wrote}
use Rattle.lvs_write.proofs.Containers.{model_parts}
use Rattle.lvs_write.proofs.Description.write_model.Goals as goal

pub returns-in_err-count : goal.returns-in_err-count
returns-in_err-count c =
    rw c.from_residual.ensures (wrote_as model_parts (then_wrote c.write_version-version.ensures (stop_wrote _ c.in_err-count.ensures) (search rules)))

pub returns-in_err-nodes : goal.returns-in_err-nodes
returns-in_err-nodes c =
    rw c.from_residual-in_err-nodes.ensures (wrote_as model_parts (then_wrote c.write_version-version.ensures (then_wrote c.in_ok-count.ensures
    (stop_wrote _ c.in_err-nodes.ensures) (search rules)) (search rules)))

pub returns : goal.returns
returns c =
    wrote_as model_parts (then_wrote c.write_version-version.ensures (then_wrote c.in_ok-count.ensures
    (then_wrote c.in_ok-nodes.ensures c.write_many-2.ensures (search rules)) (search rules)) (search rules))
