-- `lvs_edges::cross` meets its contract. Assumes nothing.
use Rattle.lvs_edges.proofs.Crossed.{value_crossed}
use Rattle.lvs_edges.proofs.cross.Goals as goal

pub returns-in-Value : goal.returns-in-Value
returns-in-Value c = rw c.in-Value.is (value_crossed c.requires c.cross_value.ensures)
