-- The containers and what they hold are written as their formats say, each by those below it. Assumes nothing.
use Rattle.std.proofs.Common.{refl, sym, ◌∙◌, arith, rules}
use Rattle.lvs_write.proofs.Moves.{wrote_as, then_wrote, stop_wrote}
use Rattle.lvs_write.proofs.Many.{running_first, running_next, running_last, running_stopped, counted_wrote, count_missed}
use Rattle.lvs_write.proofs.Nested.{early_places, wrote_early, nested_stopped, nested_no_room, nested_early, nested_again}
use Rattle.lvs_write.proofs.Places.{header_fits, inside_fits}
use Rattle.lvs_write.proofs.Sizes.{capped_most}
use Rattle.lvs_write.proofs.Containers as parts
use Rattle.lvs_write.proofs.parts.+writes.Goals as goal

pub write_call-returns-in_err-function : goal.write_call-returns-in_err-function
write_call-returns-in_err-function t c = rw c.from_residual.ensures (wrote_as parts.call_parts (stop_wrote _ c.in_err-function.ensures))

pub write_call-returns : goal.write_call-returns
write_call-returns t c = wrote_as parts.call_parts (then_wrote c.in_ok-function.ensures c.write_many.ensures (search rules))

pub write_early-returns : goal.write_early-returns
write_early-returns t c =
    wrote_early (early_places c.args.s.at _ c.add.ensures c.min-early.ensures c.min-until.ensures) c.write_inside.auto.out c.write_inside.ensures

pub write_inside-returns-in-Node : goal.write_inside-returns-in-Node
write_inside-returns-in-Node t c = parts.by_container c.in-Node.is parts.node_inside c.write_node.ensures

pub write_inside-returns-in-Symbol : goal.write_inside-returns-in-Symbol
write_inside-returns-in-Symbol t c = parts.by_container c.in-Symbol.is parts.symbol_inside c.write_symbol.ensures

pub write_inside-returns-in-PatternEdge : goal.write_inside-returns-in-PatternEdge
write_inside-returns-in-PatternEdge t c = parts.by_container c.in-PatternEdge.is parts.pattern_edge_inside c.write_pattern_edge.ensures

pub write_inside-returns-in-Constraint : goal.write_inside-returns-in-Constraint
write_inside-returns-in-Constraint t c = parts.by_container c.in-Constraint.is parts.constraint_inside c.write_many.ensures

pub write_inside-returns-in-ConstraintOption : goal.write_inside-returns-in-ConstraintOption
write_inside-returns-in-ConstraintOption t c =
    parts.by_container c.in-ConstraintOption.is parts.option_inside c.write_many-in-ConstraintOption.ensures

pub write_inside-returns-in-Call : goal.write_inside-returns-in-Call
write_inside-returns-in-Call t c = parts.by_container c.in-Call.is parts.call_inside c.write_call.ensures

pub write_inside-returns-in-Argument : goal.write_inside-returns-in-Argument
write_inside-returns-in-Argument t c = parts.by_container c.in-Argument.is parts.argument_inside c.write_argument.ensures

pub write_many-returns-in_err-count : goal.write_many-returns-in_err-count
write_many-returns-in_err-count t c = rw c.from_residual.ensures (count_missed _ c.in_err-count.ensures)

pub write_many-loop-turn-init : goal.write_many-loop-turn-init
write_many-loop-turn-init t c = running_first _ _ _

pub write_many-returns-in_err-s : goal.write_many-returns-in_err-s
write_many-returns-in_err-s t c =
    rw c.from_residual-in_err-s.ensures (counted_wrote _ c.in_ok-count.ensures (running_stopped _ c.loop-turn.invariant _ (omega arith) c.in_err-s.ensures))

pub write_many-loop-turn-preserved : goal.write_many-loop-turn-preserved
write_many-loop-turn-preserved t c = running_next _ c.loop-turn.invariant c.in_ok-s.ensures (search rules)

pub write_many-returns : goal.write_many-returns
write_many-returns t c = counted_wrote _ c.in_ok-count.ensures (running_last _ _ c.loop-turn.invariant (omega arith))

pub write_nested-returns-in_err-inside : goal.write_nested-returns-in_err-inside
write_nested-returns-in_err-inside t c = rw c.from_residual.ensures (wrote_as (parts.nested_as _ refl) (nested_stopped _ c.in_err-inside.ensures))

pub write_nested-element_size-size-requires : goal.write_nested-element_size-size-requires
write_nested-element_size-size-requires t c = omega (arith, c.cap-n.ensures, capped_most c.in_ok-inside.inside.at)

pub write_nested-returns-then-not-has_room : goal.write_nested-returns-then-not-has_room
write_nested-returns-then-not-has_room t c =
    wrote_as (parts.nested_as _ c.typ-typ.ensures)
    (nested_no_room c.in_ok-inside.ensures _ c.cap-n.ensures c.element_size-size.ensures c.add-at.ensures
    (sym c.has_room.ensures ∙ c.if-not-has_room.true))

pub write_nested-put_header-start-requires : goal.write_nested-put_header-start-requires
write_nested-put_header-start-requires t c = header_fits _ _ _ c.element_size-size.ensures _ c.has_room.ensures c.if-not-has_room.false

pub write_nested-returns-then-n-le-SHORT : goal.write_nested-returns-then-n-le-SHORT
write_nested-returns-then-n-le-SHORT t c =
    wrote_as (parts.nested_as _ c.typ-typ.ensures)
    (nested_early c.in_ok-inside.ensures _ c.cap-n.ensures c.element_size-size.ensures c.add-at.ensures
    (sym c.has_room.ensures ∙ c.if-not-has_room.false)
    (parts.type_short c.args.container c.typ-typ.ensures) c.if-n-le-SHORT.true c.put_header-start.ensures)

pub write_nested-overflow_add-end : goal.write_nested-overflow_add-end
write_nested-overflow_add-end t c =
    omega (arith, inside_fits _ _ _ c.element_size-size.ensures c.has_room.ensures c.if-not-has_room.false c.put_header-start.ensures)

pub write_nested-slice_bounds-write_inside-end : goal.write_nested-slice_bounds-write_inside-end
write_nested-slice_bounds-write_inside-end t c =
    inside_fits _ _ _ c.element_size-size.ensures c.has_room.ensures c.if-not-has_room.false c.put_header-start.ensures

pub write_nested-returns : goal.write_nested-returns
write_nested-returns t c =
    wrote_as (parts.nested_as _ c.typ-typ.ensures)
    (nested_again c.in_ok-inside.ensures _ c.cap-n.ensures c.element_size-size.ensures c.add-at.ensures
    (sym c.has_room.ensures ∙ c.if-not-has_room.false) c.if-n-le-SHORT.false c.put_header-start.ensures refl c.write_inside.ensures)

pub write_node-returns-in_err-id : goal.write_node-returns-in_err-id
write_node-returns-in_err-id t c = rw c.from_residual.ensures (wrote_as parts.node_parts (stop_wrote _ c.in_err-id.ensures))

pub write_node-returns-in_err-parent : goal.write_node-returns-in_err-parent
write_node-returns-in_err-parent t c =
    rw c.from_residual-in_err-parent.ensures (wrote_as parts.node_parts (then_wrote c.in_ok-id.ensures (stop_wrote _ c.in_err-parent.ensures) (search rules)))

pub write_node-returns-in_err-names : goal.write_node-returns-in_err-names
write_node-returns-in_err-names t c =
    rw c.from_residual-in_err-names.ensures (wrote_as parts.node_parts (then_wrote c.in_ok-id.ensures (then_wrote c.in_ok-parent.ensures
    (stop_wrote _ c.in_err-names.ensures) (search rules)) (search rules)))

pub write_node-returns-in_err-values : goal.write_node-returns-in_err-values
write_node-returns-in_err-values t c =
    rw c.from_residual-in_err-values.ensures (wrote_as parts.node_parts (then_wrote c.in_ok-id.ensures (then_wrote c.in_ok-parent.ensures
    (then_wrote c.in_ok-names.ensures (stop_wrote _ c.in_err-values.ensures) (search rules)) (search rules)) (search rules)))

pub write_node-returns-in_err-patterns : goal.write_node-returns-in_err-patterns
write_node-returns-in_err-patterns t c =
    rw c.from_residual-in_err-patterns.ensures (wrote_as parts.node_parts (then_wrote c.in_ok-id.ensures (then_wrote c.in_ok-parent.ensures
    (then_wrote c.in_ok-names.ensures (then_wrote c.in_ok-values.ensures (stop_wrote _ c.in_err-patterns.ensures) (search rules)) (search rules))
    (search rules)) (search rules)))

pub write_node-returns : goal.write_node-returns
write_node-returns t c =
    wrote_as parts.node_parts (then_wrote c.in_ok-id.ensures (then_wrote c.in_ok-parent.ensures (then_wrote c.in_ok-names.ensures
    (then_wrote c.in_ok-values.ensures (then_wrote c.in_ok-patterns.ensures c.write_many-4.ensures (search rules)) (search rules)) (search rules))
    (search rules)) (search rules))

pub write_part-returns-in-RuleName : goal.write_part-returns-in-RuleName
write_part-returns-in-RuleName t c = parts.by_part c.in-RuleName.is parts.rule_name_written c.write_text.ensures

pub write_part-returns-in-Signer : goal.write_part-returns-in-Signer
write_part-returns-in-Signer t c = parts.by_part c.in-Signer.is parts.signer_written c.write_integer.ensures

pub write_part-returns-in-Term : goal.write_part-returns-in-Term
write_part-returns-in-Term t c = parts.by_part c.in-Term.is parts.term_written c.write_term.ensures

pub write_part-returns-in-ValueEdge : goal.write_part-returns-in-ValueEdge
write_part-returns-in-ValueEdge t c = parts.by_part c.in-ValueEdge.is parts.value_edge_written c.write_value_edge.ensures

pub write_part-returns-in-Nested : goal.write_part-returns-in-Nested
write_part-returns-in-Nested t c = parts.by_part c.in-Nested.is (parts.nested_written _) c.write_nested.ensures

pub write_pattern_edge-returns-in_err-tag : goal.write_pattern_edge-returns-in_err-tag
write_pattern_edge-returns-in_err-tag t c = rw c.from_residual.ensures (wrote_as parts.pattern_edge_parts (stop_wrote _ c.in_err-tag.ensures))

pub write_pattern_edge-returns : goal.write_pattern_edge-returns
write_pattern_edge-returns t c = wrote_as parts.pattern_edge_parts (then_wrote c.in_ok-tag.ensures c.write_many.ensures (search rules))

pub write_term-returns-in_err-kind : goal.write_term-returns-in_err-kind
write_term-returns-in_err-kind t c = rw c.from_residual.ensures (parts.term_missing c.in_err-kind.ensures)

pub write_term-returns-in-0 : goal.write_term-returns-in-0
write_term-returns-in-0 t c = parts.term_value c.in_ok-kind.ensures c.in-0.is c.write_component.ensures

pub write_term-returns-in-1 : goal.write_term-returns-in-1
write_term-returns-in-1 t c = parts.term_tag c.in_ok-kind.ensures c.in-1.is c.write_integer.ensures

pub write_term-returns-in-2 : goal.write_term-returns-in-2
write_term-returns-in-2 t c = parts.term_call c.in_ok-kind.ensures c.in-2.is c.write_nested.ensures

pub write_term-returns-in_default : goal.write_term-returns-in_default
write_term-returns-in_default t c =
    parts.term_other c.in_ok-kind.ensures c.in_default.in_default-own.rest.0.0.1 c.in_default.in_default-own.rest.0.1 c.in_default.in_default-own.rest.1
