use Rattle.lvs_write.proofs.Places.{edge_stored}
use Rattle.lvs_write.proofs.leaves.put_edge_inside.Goals as goal

pub returns : goal.returns
returns c = edge_stored _ _ _ c.requires c.put_integer-first.ensures c.put_component.ensures
