-- `print_elements` ends: each element that is found leaves less of the slice.
use Rattle.std.proofs.Common.{◌-◌, length}
use Rattle.elements.proofs.print_elements.Given as goal

abbrev pub decreases-loop-typ : goal.decreases-loop-typ
decreases-loop-typ l = length l.s - l.place.at
