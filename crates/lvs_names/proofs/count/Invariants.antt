-- `lvs_names::count`: n components, and nothing else, stand before the place.
use Rattle.std.proofs.Common.{◌+◌, ◌-◌, ◌≤◌, length, Some}
use Rattle.tlv.proofs.Gathered.{GatheredFrom, folded}
use Rattle.lvs_names.proofs.Names.{marks, counts}
use Rattle.lvs_names.proofs.count.Given as goal

abbrev pub invariant-loop-typ : goal.invariant-loop-typ
invariant-loop-typ l =
    (l.n + (length l.name - l.place.at) ≤ length l.name) × GatheredFrom (folded counts (Some 0)) marks l.name l.fn.from l.place.at (Some l.n)

abbrev pub decreases-loop-typ : goal.decreases-loop-typ
decreases-loop-typ l = length l.name - l.place.at
