-- `lvs_constraints::Trial::bound` meets its contract. Assumes nothing.
use Rattle.lvs_constraints.proofs.Holds.{tag_none, tag_some}
use Rattle.lvs_constraints.proofs.Trial.bound.Goals as goal

pub returns-in_err-span : goal.returns-in_err-span
returns-in_err-span c = rw c.from_residual.ensures (tag_none _ _ _ _ c.get.ensures c.in_err-span.was)

pub returns : goal.returns
returns c = tag_some _ _ _ _ c.get.ensures c.in_ok-span.was _ c.text_from.ensures
