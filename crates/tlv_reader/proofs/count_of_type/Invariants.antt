-- `tlv_reader::count_of_type`: n elements of the type stand before the place.
use Rattle.std.proofs.Common.{◌-◌, length}
use Rattle.tlv_reader.proofs.Counting.{Counted}
use Rattle.tlv_reader.proofs.count_of_type.Given as goal

abbrev pub invariant-loop-t : goal.invariant-loop-t
invariant-loop-t l = Counted l.s l.typ l.at l.n

abbrev pub decreases-loop-t : goal.decreases-loop-t
decreases-loop-t l = length l.s - l.at
