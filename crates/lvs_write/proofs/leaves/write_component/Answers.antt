use Rattle.lvs_spec.specs.Types as type
use Rattle.lvs_write.specs.Steps.{el}
use Rattle.lvs_write.proofs.Moves.{leaf_wrote, leaf_missed}
use Rattle.lvs_write.proofs.Fronts.{component_spelled}
use Rattle.lvs_write.proofs.Places.{component_taken, component_untyped, component_short}
use Rattle.lvs_write.proofs.leaves.write_component.Goals as goal

pub returns-in_err-kind : goal.returns-in_err-kind
returns-in_err-kind c =
    rw c.from_residual.ensures (leaf_missed (λ e. el type.Value (el e.type e.inside)) (component_spelled _) (component_untyped c.in_err-kind.ensures))

pub returns-in_err-text : goal.returns-in_err-text
returns-in_err-text c =
    rw c.from_residual-in_err-text.ensures (leaf_missed (λ e. el type.Value (el e.type e.inside)) (component_spelled _)
    (component_short c.in_ok-kind.ensures c.in_err-text.ensures))

pub returns : goal.returns
returns c =
    leaf_wrote (component_taken c.in_ok-kind.ensures c.in_ok-text.ensures) (λ e. el type.Value (el e.type e.inside))
    (component_spelled _) c.behind.ensures c.put_component-size.ensures
