-- `lvs_rules::check_rules` meets its contract. Assumes nothing.
use Rattle.std.proofs.Common.{rules}
use Rattle.tlv.specs.Fields.{the_integer}
use Rattle.lvs_spec.specs.Types as type
use Rattle.lvs_rules.specs.Lowest.{tag_rule}
use Rattle.lvs_rules.proofs.Whole.{too_many, found}
use Rattle.lvs_rules.proofs.check_rules.Goals as goal

pub returns-then-n-gt-MAX_NODES : goal.returns-then-n-gt-MAX_NODES
returns-then-n-gt-MAX_NODES c = too_many _ c.count_of-n.ensures c.if-n-gt-MAX_NODES.true

pub returns : goal.returns
returns c =
    let symbols = c.sweep-symbols.ensures (λ b. tag_rule (the_integer type.Tag b)) (λ b r q. search rules) in
    found _ c.count_of-n.ensures _ c.parents_of-all.ensures c.if-n-gt-MAX_NODES.false c.number_in-start.ensures c.lowest_fault-fault.ensures
    symbols c.named_rule.ensures c.lower.ensures c.conclude.ensures
