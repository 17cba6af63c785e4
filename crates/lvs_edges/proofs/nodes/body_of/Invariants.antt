-- `lvs_edges::nodes::body_of`: from the place on there is all of the body.
use Rattle.std.proofs.Common.{◌-◌, length}
use Rattle.lvs_edges.specs.Nodes.{BodyFrom}
use Rattle.lvs_edges.proofs.nodes.body_of.Given as goal

abbrev pub invariant-loop-typ : goal.invariant-loop-typ
invariant-loop-typ l = BodyFrom l.s l.place.at

abbrev pub decreases-loop-typ : goal.decreases-loop-typ
decreases-loop-typ l = length l.s - l.place.at
