use Rattle.lvs_write.proofs.Moves.{leaf_wrote, leaf_missed}
use Rattle.lvs_write.proofs.Fronts.{value_edge_bytes, value_edge_spelled}
use Rattle.lvs_write.proofs.Places.{component_taken, component_untyped, component_short, value_edge_taken, edge_nowhere, edge_bare}
use Rattle.lvs_write.proofs.leaves.write_value_edge.Goals as goal

pub returns-in_err-to : goal.returns-in_err-to
returns-in_err-to c =
    rw c.from_residual.ensures (leaf_missed value_edge_bytes value_edge_spelled (edge_nowhere c.in_err-to.ensures))

pub returns-in_err-kind : goal.returns-in_err-kind
returns-in_err-kind c =
    rw c.from_residual-in_err-kind.ensures (leaf_missed value_edge_bytes value_edge_spelled (edge_bare c.in_ok-to.ensures
    (component_untyped c.in_err-kind.ensures)))

pub returns-in_err-text : goal.returns-in_err-text
returns-in_err-text c =
    rw c.from_residual-in_err-text.ensures (leaf_missed value_edge_bytes value_edge_spelled (edge_bare c.in_ok-to.ensures
    (component_short c.in_ok-kind.ensures c.in_err-text.ensures)))

pub returns : goal.returns
returns c =
    leaf_wrote (value_edge_taken c.in_ok-to.ensures
    (component_taken c.in_ok-kind.ensures c.in_ok-text.ensures)) value_edge_bytes value_edge_spelled c.behind.ensures c.put_value_edge-size.ensures
