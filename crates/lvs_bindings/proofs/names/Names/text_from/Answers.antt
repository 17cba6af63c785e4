-- `lvs_bindings::names::Names::text_from` meets its contract. Assumes nothing.
use Rattle.lvs_bindings.proofs.Bound.{text_packet, text_key}
use Rattle.lvs_bindings.proofs.names.Names.text_from.Goals as goal

pub returns-then-at-self : goal.returns-then-at-self
returns-then-at-self c = text_packet _ _ _ c.if-at-self.true

pub returns : goal.returns
returns c = text_key _ _ _ _ c.if-at-self.false c.min.ensures
