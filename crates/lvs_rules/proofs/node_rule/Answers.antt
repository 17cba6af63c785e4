-- `lvs_rules::node_rule` meets its contract. Assumes nothing.
use Rattle.std.proofs.Common.{◌∙◌, length, rules}
use Rattle.tlv.specs.Fields.{number_of}
use Rattle.lvs_spec.specs.Model.{pattern_edge_of}
use Rattle.lvs_rules.specs.Lowest.{named_rule, pattern_edge_rule}
use Rattle.lvs_rules.proofs.Items.{node_is}
use Rattle.lvs_rules.proofs.node_rule.Goals as goal

pub returns : goal.returns
returns c =
    let patterns = c.sweep-patterns.ensures (λ x. pattern_edge_rule (pattern_edge_of x)) (λ b r q. search rules) in
    let signers = c.sweep-signers.ensures (λ x. named_rule 9 (length c.args.parents.now) (number_of x)) (λ b r q. search rules) in
    c.lower-3.ensures
    ∙ rw (c.lower-own.ensures, c.own_rule.ensures, c.root_rule.ensures)
    (rw (c.lower-2.ensures, c.destinations_rule-edges.ensures, c.lower.ensures, patterns, signers) (node_is _ _ _ _))
