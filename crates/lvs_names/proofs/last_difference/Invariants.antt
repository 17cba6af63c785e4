-- `lvs_names::last_difference`: no byte from `at` on differs.
use Rattle.lvs_names.specs.Comparing.{AlikeFrom}
use Rattle.lvs_names.proofs.last_difference.Given as goal

abbrev pub invariant-loop-at : goal.invariant-loop-at
invariant-loop-at l = AlikeFrom l.s l.c l.header l.at
