-- `lvs_bindings::Slots::get` meets its contract. Assumes nothing.
use Rattle.std.proofs.Common.{sym, ◌∙◌}
use Rattle.lvs_bindings.proofs.Bound.{slot_none, slot_some}
use Rattle.lvs_bindings.proofs.Slots.get.Goals as goal

pub returns-in_err-slot_index : goal.returns-in_err-slot_index
returns-in_err-slot_index c = c.from_residual.ensures ∙ sym (slot_none _ c.args.self.now.all c.args.tag c.in_err-slot_index.ensures)

pub returns : goal.returns
returns c = sym (slot_some _ c.args.self.now.all c.args.tag _ c.in_ok-slot_index.ensures)
