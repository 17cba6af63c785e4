-- `lvs_grammar::other_version`: the elements that are left decide.
use Rattle.std.proofs.Common.{◌≡◌}
use Rattle.tlv.specs.Answers.{elements_left}
use Rattle.lvs_spec.specs.WellFormed.{other_version}
use Rattle.lvs_grammar.proofs.Turns.{other_among}
use Rattle.lvs_grammar.proofs.other_version.Given as goal

abbrev pub invariant-loop-element : goal.invariant-loop-element
invariant-loop-element l = other_among (elements_left l.element-iterator) ≡ other_version l.model
