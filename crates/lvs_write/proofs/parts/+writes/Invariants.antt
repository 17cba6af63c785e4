-- Each call of the cycle is of something less high (`proofs/Heights.antt`). Its loop has gone through so many of its parts.
use Rattle.std.proofs.Common.{◌+◌, ◌*◌}
use Rattle.lvs_write.specs.Spelled.{part_from}
use Rattle.lvs_write.proofs.Heights.{height, weight}
use Rattle.lvs_write.proofs.Many.{Running}
use Rattle.lvs_write.proofs.parts.+writes.Given as goal

abbrev pub decreases-write_many : goal.decreases-write_many
decreases-write_many l = weight l.part + 1

abbrev pub decreases-write_part : goal.decreases-write_part
decreases-write_part l = weight l.part

abbrev pub decreases-write_nested : goal.decreases-write_nested
decreases-write_nested l = 8 * height l.container + 4

abbrev pub decreases-write_early : goal.decreases-write_early
decreases-write_early l = 8 * height l.container + 3

abbrev pub decreases-write_inside : goal.decreases-write_inside
decreases-write_inside l = 8 * height l.container + 2

abbrev pub decreases-write_node : goal.decreases-write_node
decreases-write_node l = 41

abbrev pub decreases-write_pattern_edge : goal.decreases-write_pattern_edge
decreases-write_pattern_edge l = 33

abbrev pub decreases-write_term : goal.decreases-write_term
decreases-write_term l = 13

abbrev pub decreases-write_call : goal.decreases-write_call
decreases-write_call l = 9

abbrev pub invariant-write_many-loop-turn : goal.invariant-write_many-loop-turn
invariant-write_many-loop-turn l = Running (part_from l.part) l.initial.out l.initial.s l._turn l.out l.s
