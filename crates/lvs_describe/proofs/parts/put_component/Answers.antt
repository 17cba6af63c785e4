use Rattle.lvs_describe.proofs.Puts.{describes_then, describes_as}
use Rattle.lvs_describe.proofs.Containers.{component_is}
use Rattle.lvs_describe.proofs.parts.put_component.Goals as goal

pub returns : goal.returns
returns c = describes_as (component_is _ _ c.read_component-held.ensures) (describes_then c.in_ok-number.ensures c.numbered.ensures)
