-- `lvs_rules::patterns::option_rule` meets its contract. Assumes nothing.
use Rattle.std.proofs.Common.{◌∙◌, rules}
use Rattle.lvs_rules.proofs.Items.{tag_in, call_in, option_is}
use Rattle.lvs_rules.proofs.patterns.option_rule.Goals as goal

pub returns : goal.returns
returns c =
    let tags = c.sweep-tags.ensures tag_in (λ b r q. search rules) in
    let calls = c.sweep.ensures call_in (λ b r q. search rules) in
    c.lower-2.ensures ∙ rw (c.terms_rule.ensures, c.lower.ensures, tags, calls) (option_is _)
