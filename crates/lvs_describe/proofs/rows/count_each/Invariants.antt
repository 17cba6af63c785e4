use Rattle.tlv.specs.Answers.{elements_left}
use Rattle.lvs_describe.proofs.Loops.{Tallied}
use Rattle.lvs_describe.proofs.rows.count_each.Given as goal

abbrev pub invariant-loop-element : goal.invariant-loop-element
invariant-loop-element l = Tallied l.node (elements_left l.element-iterator) l.count
