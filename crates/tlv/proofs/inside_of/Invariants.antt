-- `tlv::inside_of`: the first of the type among those that are left is the first of all.
use Rattle.std.proofs.Common.{◌≡◌}
use Rattle.tlv.specs.Answers.{elements_left}
use Rattle.tlv.specs.Fields.{the_inside}
use Rattle.tlv.proofs.Fields.{first_inside}
use Rattle.tlv.proofs.inside_of.Given as goal

abbrev pub invariant-loop-element : goal.invariant-loop-element
invariant-loop-element l = first_inside l.typ (elements_left l.element-iterator) ≡ the_inside l.typ l.s
