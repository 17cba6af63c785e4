-- `lvs_bindings::Slots::bind` meets its contract. Assumes nothing.
use Rattle.std.proofs.Common.{sym}
use Rattle.lvs_bindings.proofs.Bound.{tag_none, tag_some, set_none, set_some}
use Rattle.lvs_bindings.proofs.Slots.bind.Goals as goal

pub returns-in_default-clause-tag : goal.returns-in_default-clause-tag
returns-in_default-clause-tag c = sym (tag_none c.args.tag c.in_default.ensures)

pub returns-in_default-clause-spans : goal.returns-in_default-clause-spans
returns-in_default-clause-spans c = sym (set_none _ c.args.self.now.all c.args.tag _ c.in_default.ensures)

pub returns-clause-tag : goal.returns-clause-tag
returns-clause-tag c = sym (tag_some c.args.tag _ c.in-Some.ensures)

pub returns-clause-spans : goal.returns-clause-spans
returns-clause-spans c = sym (set_some _ c.args.self.now.all c.args.tag _ _ c.in-Some.ensures)
