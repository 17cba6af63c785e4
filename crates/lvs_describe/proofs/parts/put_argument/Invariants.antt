use Rattle.std.proofs.Common.{◌≡◌}
use Rattle.tlv.specs.Answers.{elements_left}
use Rattle.lvs_spec.specs.Model.{argument_of}
use Rattle.lvs_describe.proofs.Loops.{first_argument}
use Rattle.lvs_describe.proofs.parts.put_argument.Given as goal

abbrev pub invariant-loop-element : goal.invariant-loop-element
invariant-loop-element l = (first_argument (elements_left l.element-iterator) ≡ argument_of l.b) × (l.out ≡ l.initial.out)
