use Rattle.lvs_describe.proofs.Puts.{describes_as}
use Rattle.lvs_describe.proofs.Containers.{value_edge_is}
use Rattle.lvs_describe.proofs.parts.put_value_edge.Goals as goal

pub returns : goal.returns
returns c = describes_as (value_edge_is _ c.destination-destination.ensures c.value_of.ensures) c.put_component.ensures
