-- `lvs_constraints::Trial::argument`: the first argument among the elements that are left is the first of all.
use Rattle.std.proofs.Common.{◌≡◌}
use Rattle.tlv.specs.Answers.{elements_left}
use Rattle.lvs_spec.specs.Model.{argument_of}
use Rattle.lvs_constraints.proofs.Holds.{first_argument_in}
use Rattle.lvs_constraints.proofs.Trial.argument.Given as goal

abbrev pub invariant-loop-e : goal.invariant-loop-e
invariant-loop-e l = first_argument_in (elements_left l.e-iterator) ≡ argument_of l.s
