-- `lvs_rules::patterns::call_rule` meets its contract. Assumes nothing.
use Rattle.std.proofs.Common.{◌∙◌, rules}
use Rattle.lvs_spec.specs.Model.{argument_of}
use Rattle.lvs_rules.specs.Lowest.{argument_rule}
use Rattle.lvs_rules.proofs.Items.{call_is}
use Rattle.lvs_rules.proofs.patterns.call_rule.Goals as goal

pub returns : goal.returns
returns c =
    c.lower.ensures ∙ rw (c.arguments_rule.ensures, c.sweep.ensures (λ x. argument_rule (argument_of x)) (λ b r q. search rules)) (call_is _)
