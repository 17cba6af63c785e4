-- `lvs_grammar::faults::fault_in` and `first_fault`: a container's inside is read at the depth that is left; twice that, so that `first_fault`
-- stands between two depths. The loop's invariant: the elements from the place on, in the state reached, decide.
use Rattle.std.proofs.Common.{suc, ◌≤◌, ◌≡◌, length, ◌+◌, ◌-◌, ◌*◌}
use Rattle.lvs_spec.specs.Places.{fault_by}
use Rattle.lvs_grammar.specs.Types.{kind_of}
use Rattle.lvs_grammar.proofs.Turns.{fault_after}
use Rattle.lvs_grammar.proofs.faults.+fault_in_first_fault.Given as goal

abbrev pub decreases-fault_in : goal.decreases-fault_in
decreases-fault_in l = 2 * l.depth

abbrev pub decreases-first_fault : goal.decreases-first_fault
decreases-first_fault l = 2 * l.below + 1

abbrev pub invariant-first_fault-loop-typ : goal.invariant-first_fault-loop-typ
invariant-first_fault-loop-typ l =
    (fault_by (suc l.below) (kind_of l.kind) l.s ≡ fault_after l.below (kind_of l.kind) l.state l.s l.place.at) × (l.place.at ≤ length l.s)

abbrev pub decreases-first_fault-loop-typ : goal.decreases-first_fault-loop-typ
decreases-first_fault-loop-typ l = length l.s - l.place.at
