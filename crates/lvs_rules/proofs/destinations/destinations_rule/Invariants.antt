-- `lvs_rules::destinations::destinations_rule`: what the edges before those that are left break, and where they lead.
use Rattle.tlv.specs.Answers.{elements_left}
use Rattle.lvs_rules.specs.Broken.{number}
use Rattle.lvs_rules.proofs.Parallel.{Led}
use Rattle.lvs_rules.proofs.destinations.destinations_rule.Given as goal

abbrev pub invariant-loop-element : goal.invariant-loop-element
invariant-loop-element l = Led l.parents l.i l.node (elements_left l.element-iterator) (number l.rule) l.seen
