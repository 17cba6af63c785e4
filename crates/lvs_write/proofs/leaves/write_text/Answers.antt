use Rattle.lvs_write.specs.Steps.{el}
use Rattle.lvs_write.proofs.Moves.{leaf_wrote, leaf_missed}
use Rattle.lvs_write.proofs.Fronts.{text_spelled}
use Rattle.lvs_write.proofs.leaves.write_text.Goals as goal

pub returns-in_err-text : goal.returns-in_err-text
returns-in_err-text c = rw c.from_residual.ensures (leaf_missed (λ t. el c.args.typ t) (text_spelled _) c.in_err-text.ensures)

pub returns : goal.returns
returns c =
    leaf_wrote c.in_ok-text.ensures (λ t. el c.args.typ t) (text_spelled _) c.behind.ensures c.put_text-size.ensures
