-- `lvs_edges::Edges`: the edges that are left are those that were left before.
use Rattle.std.proofs.Common.{◌≡◌, length}
use Rattle.tlv.specs.Answers.{elements_left}
use Rattle.lvs_edges.specs.Left.{edges_left}
use Rattle.lvs_edges.proofs.EdgesIterator.next.Given as goal

abbrev pub invariant-loop-e : goal.invariant-loop-e
invariant-loop-e l = edges_left l.fn.self ≡ edges_left l.self

abbrev pub decreases-loop-e : goal.decreases-loop-e
decreases-loop-e l = length (elements_left l.self.elements)
