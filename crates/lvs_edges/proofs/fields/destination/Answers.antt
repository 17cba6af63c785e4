-- `lvs_edges::fields::destination` meets its contract. Assumes nothing.
use Rattle.lvs_edges.proofs.FixedPlaces.{plain_destination}
use Rattle.lvs_edges.proofs.fields.destination.Goals as goal

pub returns-then-plain_node : goal.returns-then-plain_node
returns-then-plain_node c = plain_destination (c.plain_node.ensures c.if-plain_node.true)
