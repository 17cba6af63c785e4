-- `lvs_rules::patterns::constraint_rule` meets its contract. Assumes nothing.
use Rattle.std.proofs.Common.{◌∙◌, rules}
use Rattle.lvs_spec.specs.Model.{option_of}
use Rattle.lvs_rules.specs.Lowest.{option_rule}
use Rattle.lvs_rules.proofs.Items.{constraint_is}
use Rattle.lvs_rules.proofs.patterns.constraint_rule.Goals as goal

pub returns : goal.returns
returns c = c.sweep.ensures (λ x. option_rule (option_of x)) (λ b r q. search rules) ∙ constraint_is _
