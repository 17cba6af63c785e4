-- `lvs_rules::lowest_fault`: the fault so far is that of the Nodes before those that are left.
use Rattle.tlv.specs.Answers.{elements_left}
use Rattle.lvs_spec.specs.Model.{node_of}
use Rattle.lvs_rules.specs.Lowest.{node_rule}
use Rattle.lvs_rules.specs.Faults.{fault_of}
use Rattle.lvs_rules.proofs.Loops.{Scanned}
use Rattle.lvs_rules.proofs.lowest_fault.Given as goal

abbrev pub invariant-loop-element : goal.invariant-loop-element
invariant-loop-element l = Scanned (λ i b. node_rule l.start l.parents i (node_of b)) l.model (elements_left l.element-iterator) l.i (fault_of l.fault)
