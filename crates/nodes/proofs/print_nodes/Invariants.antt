-- `print_nodes` ends: each element that is found leaves less of the slice.
use Rattle.std.proofs.Common.{◌-◌, length}
use Rattle.nodes.proofs.print_nodes.Given as goal

abbrev pub decreases-loop-typ : goal.decreases-loop-typ
decreases-loop-typ l = length l.model - l.at
