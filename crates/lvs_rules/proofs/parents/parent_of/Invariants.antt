-- `lvs_rules::parents::parent_of`: the first Parent is among the elements that are left.
use Rattle.std.proofs.Common.{◌≡◌}
use Rattle.tlv.specs.Answers.{elements_left}
use Rattle.lvs_spec.specs.Model.{node_of}
use Rattle.lvs_rules.specs.Lowest.{parent_index}
use Rattle.lvs_rules.proofs.Loops.{parent_left}
use Rattle.lvs_rules.proofs.parents.parent_of.Given as goal

abbrev pub invariant-loop-element : goal.invariant-loop-element
invariant-loop-element l = parent_left (elements_left l.element-iterator) ≡ parent_index (node_of l.node)
