-- `lvs_edges::nodes::Nodes::of`: the bodies of the first n Nodes are there.
use Rattle.std.proofs.Common.{◌-◌, ◌≤◌, length}
use Rattle.lvs_edges.proofs.Filled.{Filled}
use Rattle.lvs_edges.proofs.nodes.Nodes.of.Given as goal

abbrev pub invariant-loop-typ : goal.invariant-loop-typ
invariant-loop-typ l = (l.place.at ≤ length l.model) × Filled l.model l.bodies l.n l.place.at

abbrev pub decreases-loop-typ : goal.decreases-loop-typ
decreases-loop-typ l = length l.model - l.place.at
