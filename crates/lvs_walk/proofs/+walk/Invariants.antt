-- `lvs_walk::walk`: it calls itself on the components that are left, and from a packet match on the key. The loop goes over the Node's edges: none so
-- far has a hit, and bindings and path are as they were.
use Rattle.lvs_edges.specs.Left.{edges_left}
use Rattle.lvs_walk.specs.Search.{bytes_left}
use Rattle.lvs_walk.proofs.Turns.{Turn, search_at}
use Rattle.lvs_walk.proofs.+walk.Given as goal

abbrev pub decreases-walk : goal.decreases-walk
decreases-walk l = bytes_left l.search.names.packet.now l.search.names.key.now l.goal l.at

abbrev pub invariant-loop-ordinal : goal.invariant-loop-ordinal
invariant-loop-ordinal l =
    Turn
    (search_at l.search.nodes.now.model.now l.search.named l.search.names.packet.now l.search.names.key.now l.goal l.node l.end l.depth l.text
    l.component.bytes.now l.fn.slots.spans l.fn.path)
    l.slots.spans l.path l.ordinal-iterator.count (edges_left l.ordinal-iterator.iter)
