-- `lvs_names::read_component` meets its contract. Assumes nothing.
use Rattle.tlv.proofs.Cuts.{first_seen}
use Rattle.lvs_names.proofs.Names.{nothing, content_none, content_found}
use Rattle.lvs_names.proofs.read_component.Goals as goal

pub returns-in_default : goal.returns-in_default
returns-in_default c = content_none (nothing _ _ c.element.ensures c.in_default.not-Found)

pub returns : goal.returns
returns c = content_found (first_seen _ _ c.element.ensures c.in-Found.is)
