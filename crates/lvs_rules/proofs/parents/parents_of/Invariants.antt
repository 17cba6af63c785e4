-- `lvs_rules::parents::parents_of`: the first `n` entries are the Parents of the Nodes before those that are left.
use Rattle.tlv.specs.Answers.{elements_left}
use Rattle.lvs_rules.proofs.Loops.{Filling}
use Rattle.lvs_rules.proofs.parents.parents_of.Given as goal

abbrev pub invariant-loop-element : goal.invariant-loop-element
invariant-loop-element l = Filling l.model (elements_left l.element-iterator) l.n l.parents
