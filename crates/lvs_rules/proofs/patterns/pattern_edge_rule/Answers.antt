-- `lvs_rules::patterns::pattern_edge_rule` meets its contract. Assumes nothing.
use Rattle.std.proofs.Common.{◌∙◌, rules}
use Rattle.lvs_spec.specs.Model.{constraint_of}
use Rattle.lvs_rules.specs.Lowest.{constraint_rule}
use Rattle.lvs_rules.proofs.Items.{pattern_edge_is}
use Rattle.lvs_rules.proofs.patterns.pattern_edge_rule.Goals as goal

pub returns : goal.returns
returns c =
    c.lower.ensures
    ∙ rw (c.tag_rule-tag.ensures, c.number_in.ensures, c.sweep.ensures (λ x. constraint_rule (constraint_of x)) (λ b r q. search rules)) (pattern_edge_is _)
