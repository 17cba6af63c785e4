-- Each call of the cycle is of fewer bytes, or of the same ones and something smaller.
use Rattle.std.proofs.Common.{◌+◌, ◌*◌, length}
use Rattle.tlv.specs.Answers.{elements_left}
use Rattle.lvs_describe.proofs.Walked.{Walked}
use Rattle.lvs_describe.proofs.rows.+puts.Given as goal

abbrev pub decreases-put_row : goal.decreases-put_row
decreases-put_row l = 4 * length l.s.now + 1

abbrev pub decreases-put_counted : goal.decreases-put_counted
decreases-put_counted l = 4 * length l.s.now

abbrev pub decreases-put_item : goal.decreases-put_item
decreases-put_item l = 4 * length l.element.inside.now + 3

abbrev pub decreases-put_node : goal.decreases-put_node
decreases-put_node l = 4 * length l.b.now + 2

abbrev pub decreases-put_pattern_edge : goal.decreases-put_pattern_edge
decreases-put_pattern_edge l = 4 * length l.b.now + 2

abbrev pub decreases-put_call : goal.decreases-put_call
decreases-put_call l = 4 * length l.b.now + 2

abbrev pub invariant-put_counted-loop-element : goal.invariant-put_counted-loop-element
invariant-put_counted-loop-element l = Walked l.sort l.s (elements_left l.element-iterator) l.initial.out l.out
