-- `lvs_rules::options::argument_rule`: the argument is among the elements that are left.
use Rattle.std.proofs.Common.{◌≡◌}
use Rattle.tlv.specs.Answers.{elements_left}
use Rattle.lvs_spec.specs.Model.{argument_of}
use Rattle.lvs_rules.proofs.Loops.{argument_left}
use Rattle.lvs_rules.proofs.options.argument_rule.Given as goal

abbrev pub invariant-loop-element : goal.invariant-loop-element
invariant-loop-element l = argument_left (elements_left l.element-iterator) ≡ argument_of l.b
