-- `lvs_edges::cross_pattern` meets its contract: the component does not pass; the Tag is bound, or temporary, or is bound now. Assumes nothing.
use Rattle.lvs_edges.proofs.Crossed.{pattern_shut, bound_kept, temporary_kept, free_bound}
use Rattle.lvs_edges.proofs.cross_pattern.Goals as goal

pub returns-then-not-passes : goal.returns-then-not-passes
returns-then-not-passes c =
    pattern_shut c.requires c.pattern_fields-fields.ensures c.named_slot-bound.ensures c.passes.ensures c.if-not-passes.true

pub returns-then-is_some : goal.returns-then-is_some
returns-then-is_some c =
    bound_kept c.requires c.pattern_fields-fields.ensures c.named_slot-bound.ensures c.passes.ensures c.if-not-passes.false
    c.is_some.ensures c.if-is_some.true

pub returns-then-named-tag : goal.returns-then-named-tag
returns-then-named-tag c =
    temporary_kept c.requires c.pattern_fields-fields.ensures c.named_slot-bound.ensures c.passes.ensures c.if-not-passes.false
    c.if-named-tag.true

pub returns : goal.returns
returns c =
    free_bound c.requires c.pattern_fields-fields.ensures c.named_slot-bound.ensures c.passes.ensures c.args.slots.now.all c.if-not-passes.false
    c.is_some.ensures c.if-is_some.false c.if-named-tag.false c.bind-bound.ensures.spans _ c.bind-bound.ensures.tag
