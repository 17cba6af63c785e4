use Rattle.lvs_description.specs.Format.{integer_bytes}
use Rattle.lvs_write.specs.Steps.{el}
use Rattle.lvs_write.proofs.Moves.{leaf_wrote, leaf_missed}
use Rattle.lvs_write.proofs.Fronts.{integer_spelled}
use Rattle.lvs_write.proofs.leaves.write_integer.Goals as goal

pub returns-in_err-n : goal.returns-in_err-n
returns-in_err-n c =
    rw c.from_residual.ensures (leaf_missed (λ n. el c.args.typ (integer_bytes n)) (integer_spelled _) c.in_err-n.ensures)

pub returns : goal.returns
returns c =
    leaf_wrote c.in_ok-n.ensures (λ n. el c.args.typ (integer_bytes n)) (integer_spelled _) c.behind.ensures c.put_integer-size.ensures
