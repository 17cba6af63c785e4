-- Rows and the containers that hold them are put as their formats say, each by those below it. Assumes nothing.
use Rattle.std.proofs.Common.{sym, ap, ◌∙◌, arith}
use Rattle.tlv.specs.Answers.{elements_left}
use Rattle.lvs_describe.proofs.Puts.{describes_then, describes_stop, describes_as}
use Rattle.lvs_describe.proofs.Walked.{walk_first, walk_past, walk_item, walk_stopped, walk_end, walk_none, walk_unnumbered, walk_shorter}
use Rattle.lvs_describe.proofs.Containers.{call_is, pattern_edge_is, plain_edge_is, node_is, of_sort, node_item, symbol_item, parent_item, name_item}
use Rattle.lvs_describe.proofs.Containers.{value_edge_item, pattern_edge_item, signer_item, constraint_item}
use Rattle.lvs_describe.proofs.Containers.{option_item, value_item, tag_item, call_item, argument_item}
use Rattle.lvs_describe.proofs.rows.+puts.Goals as goal

pub put_call-returns-in_err-numbered : goal.put_call-returns-in_err-numbered
put_call-returns-in_err-numbered t c =
    rw c.from_residual.ensures (describes_as (call_is _ c.inside_of.ensures) (describes_stop _ c.in_err-numbered.ensures))

pub put_call-returns : goal.put_call-returns
put_call-returns t c = describes_as (call_is _ c.inside_of.ensures) (describes_then c.in_ok-numbered.ensures c.put_row.ensures)

pub put_counted-returns-in_err-number : goal.put_counted-returns-in_err-number
put_counted-returns-in_err-number t c = rw c.from_residual.ensures (walk_unnumbered _ _ c.requires c.in_err-number.ensures)

pub put_counted-returns-then-count-lt1 : goal.put_counted-returns-then-count-lt1
put_counted-returns-then-count-lt1 t c = walk_none _ _ c.requires c.if-count-lt1.true c.in_ok-number.ensures

pub put_counted-loop-element-init : goal.put_counted-loop-element-init
put_counted-loop-element-init t c =
    walk_first (ap elements_left c.into_iter-element-iterator.ensures.into_iter_gives ∙ c.of-element-items.ensures.left)

pub put_counted-put_item-requires : goal.put_counted-put_item-requires
put_counted-put_item-requires t c = (omega (arith, c.decreases, walk_shorter c.loop-element.invariant c.in-Some.ensures.steps), tt)

pub put_counted-loop-element-preserved-in-Continue-branch-2 : goal.put_counted-loop-element-preserved-in-Continue-branch-2
put_counted-loop-element-preserved-in-Continue-branch-2 t c =
    walk_item c.loop-element.invariant c.in-Some.ensures.steps (sym c.holds.ensures ∙ c.if-holds.true) c.in_ok-put_item.ensures

pub put_counted-returns-in_err-put_item : goal.put_counted-returns-in_err-put_item
put_counted-returns-in_err-put_item t c =
    rw c.from_residual-in_err-put_item.ensures (walk_stopped c.loop-element.invariant c.in-Some.ensures.steps c.requires c.in_ok-number.ensures
    (sym c.holds.ensures ∙ c.if-holds.true) c.in_err-put_item.ensures)

pub put_counted-loop-element-preserved : goal.put_counted-loop-element-preserved
put_counted-loop-element-preserved t c = walk_past c.loop-element.invariant c.in-Some.ensures.steps (sym c.holds.ensures ∙ c.if-holds.false)

pub put_counted-returns : goal.put_counted-returns
put_counted-returns t c = walk_end c.loop-element.invariant c.requires c.in_ok-number.ensures c.in-None.ensures.steps.0

pub put_item-returns-in-Node : goal.put_item-returns-in-Node
put_item-returns-in-Node t c = of_sort _ _ c.in-Node.is (node_item _ _) c.put_node.ensures

pub put_item-returns-in-Symbol : goal.put_item-returns-in-Symbol
put_item-returns-in-Symbol t c = of_sort _ _ c.in-Symbol.is (symbol_item _ _) c.put_symbol.ensures

pub put_item-returns-in-Parent : goal.put_item-returns-in-Parent
put_item-returns-in-Parent t c = of_sort _ _ c.in-Parent.is (parent_item _ _ c.number_of.ensures) c.number.ensures

pub put_item-returns-in-RuleName : goal.put_item-returns-in-RuleName
put_item-returns-in-RuleName t c = of_sort _ _ c.in-RuleName.is (name_item _ _) c.text.ensures

pub put_item-returns-in-ValueEdge : goal.put_item-returns-in-ValueEdge
put_item-returns-in-ValueEdge t c = of_sort _ _ c.in-ValueEdge.is (value_edge_item _ _) c.put_value_edge.ensures

pub put_item-returns-in-PatternEdge : goal.put_item-returns-in-PatternEdge
put_item-returns-in-PatternEdge t c = of_sort _ _ c.in-PatternEdge.is (pattern_edge_item _ _) c.put_pattern_edge.ensures

pub put_item-returns-in-Signer : goal.put_item-returns-in-Signer
put_item-returns-in-Signer t c = of_sort _ _ c.in-Signer.is (signer_item _ _ c.number_of-in-Signer.ensures) c.number-in-Signer.ensures

pub put_item-returns-in-Constraint : goal.put_item-returns-in-Constraint
put_item-returns-in-Constraint t c = of_sort _ _ c.in-Constraint.is (constraint_item _ _) c.put_row.ensures

pub put_item-returns-in-ConstraintOption : goal.put_item-returns-in-ConstraintOption
put_item-returns-in-ConstraintOption t c = of_sort _ _ c.in-ConstraintOption.is (option_item _ _) c.put_row-in-ConstraintOption.ensures

pub put_item-returns-in-Argument : goal.put_item-returns-in-Argument
put_item-returns-in-Argument t c = of_sort _ _ c.in-Argument.is (argument_item _ _) c.put_argument.ensures

pub put_item-returns-in-33 : goal.put_item-returns-in-33
put_item-returns-in-33 t c = of_sort _ _ c.in-Term.is (value_item _ _ c.in-33.is) c.put_component.ensures

pub put_item-returns-in-35 : goal.put_item-returns-in-35
put_item-returns-in-35 t c = of_sort _ _ c.in-Term.is (tag_item _ _ c.in-35.is c.number_of-in-35.ensures) c.pair.ensures

pub put_item-returns-in_default : goal.put_item-returns-in_default
put_item-returns-in_default t c =
    of_sort _ _ c.in-Term.is (call_item _ _ c.in_default.in_default-own.rest.0.1 c.in_default.in_default-own.rest.1) c.put_call.ensures

pub put_node-returns-in_err-put_own : goal.put_node-returns-in_err-put_own
put_node-returns-in_err-put_own t c = rw c.from_residual.ensures (describes_as (node_is _) (describes_stop _ c.in_err-put_own.ensures))

pub put_node-returns-in_err-put_counted : goal.put_node-returns-in_err-put_counted
put_node-returns-in_err-put_counted t c =
    rw c.from_residual-in_err-put_counted.ensures (describes_as (node_is _) (describes_then c.in_ok-put_own.ensures
    (describes_stop _ c.in_err-put_counted.ensures)))

pub put_node-returns-in_err-put_counted-2 : goal.put_node-returns-in_err-put_counted-2
put_node-returns-in_err-put_counted-2 t c =
    rw c.from_residual-in_err-put_counted-2.ensures (describes_as (node_is _) (describes_then c.in_ok-put_own.ensures
    (describes_then c.in_ok-put_counted.ensures (describes_stop _ c.in_err-put_counted-2.ensures))))

pub put_node-returns-in_err-put_counted-3 : goal.put_node-returns-in_err-put_counted-3
put_node-returns-in_err-put_counted-3 t c =
    rw c.from_residual-in_err-put_counted-3.ensures (describes_as (node_is _) (describes_then c.in_ok-put_own.ensures
    (describes_then c.in_ok-put_counted.ensures (describes_then c.in_ok-put_counted-2.ensures (describes_stop _ c.in_err-put_counted-3.ensures)))))

pub put_node-returns : goal.put_node-returns
put_node-returns t c =
    describes_as (node_is _) (describes_then c.in_ok-put_own.ensures (describes_then c.in_ok-put_counted.ensures
    (describes_then c.in_ok-put_counted-2.ensures (describes_then c.in_ok-put_counted-3.ensures c.put_counted-4.ensures))))

pub put_pattern_edge-returns-in_err-pair : goal.put_pattern_edge-returns-in_err-pair
put_pattern_edge-returns-in_err-pair t c =
    rw c.from_residual.ensures (describes_as (pattern_edge_is _ c.pattern_fields-fields.ensures) (describes_stop _ c.in_err-pair.ensures))

pub put_pattern_edge-returns : goal.put_pattern_edge-returns
put_pattern_edge-returns t c =
    describes_as (pattern_edge_is _ c.pattern_fields-fields.ensures) (describes_then c.in_ok-pair.ensures c.put_row.ensures)

pub put_pattern_edge-returns-then-b-fields : goal.put_pattern_edge-returns-then-b-fields
put_pattern_edge-returns-then-b-fields t c =
    describes_as (plain_edge_is _ c.pattern_fields-fields.ensures c.if-b-fields.true) (describes_then c.in_ok-pair.ensures c.number.ensures)
