-- `lvs_rules::options::argument_rule` meets its contract. Assumes nothing.
use Rattle.std.proofs.Common.{◌∙◌, sym, ap}
use Rattle.tlv.specs.Answers.{elements_left}
use Rattle.lvs_rules.specs.Lowest.{argument_rule}
use Rattle.lvs_rules.proofs.Loops.{argument_left, argument_start, value_first, tag_first, no_argument}
use Rattle.lvs_rules.proofs.options.argument_rule.Goals as goal

pub loop-element-init : goal.loop-element-init
loop-element-init c =
    ap argument_left (ap elements_left c.into_iter-element-iterator.ensures.into_iter_gives ∙ c.of-element-items.ensures.left) ∙ argument_start _

pub returns-then-element-eq-VALUE : goal.returns-then-element-eq-VALUE
unfolding argument_rule
returns-then-element-eq-VALUE c =
    let is = sym (value_first _ _ c.if-element-eq-VALUE.true) ∙ sym (ap argument_left c.in-Some.ensures.steps) ∙ c.loop-element.invariant in
    ap argument_rule is

pub returns-then-element-eq-TAG : goal.returns-then-element-eq-TAG
unfolding argument_rule
returns-then-element-eq-TAG c =
    let is = sym (tag_first _ _ c.if-element-eq-TAG.true) ∙ sym (ap argument_left c.in-Some.ensures.steps) ∙ c.loop-element.invariant in
    c.tag_rule.ensures ∙ rw c.number_of.ensures (ap argument_rule is)

pub loop-element-preserved : goal.loop-element-preserved
loop-element-preserved c =
    sym (no_argument _ _ c.if-element-eq-VALUE.false c.if-element-eq-TAG.false) ∙ sym (ap argument_left c.in-Some.ensures.steps) ∙ c.loop-element.invariant

pub returns : goal.returns
unfolding argument_rule
returns c = let is = sym (ap argument_left c.in-None.ensures.steps.0) ∙ c.loop-element.invariant in c.tag_rule-2.ensures ∙ ap argument_rule is
