-- `lvs_bindings::Slots::unbind` meets its contract. Assumes nothing.
use Rattle.std.proofs.Common.{sym}
use Rattle.lvs_bindings.proofs.Bound.{clear_none, clear_some}
use Rattle.lvs_bindings.proofs.Slots.unbind.Goals as goal

pub returns-in-Some : goal.returns-in-Some
returns-in-Some c = sym (clear_some _ c.args.self.now.all c.args.tag _ c.in-Some.ensures)

pub returns-in_default : goal.returns-in_default
returns-in_default c = sym (clear_none _ c.args.self.now.all c.args.tag c.in_default.ensures)
