-- `lvs_rules::parents::parent_of` meets its contract. Assumes nothing.
use Rattle.std.proofs.Common.{◌∙◌, sym, ap}
use Rattle.tlv.specs.Answers.{elements_left}
use Rattle.lvs_rules.proofs.Loops.{parent_left, parent_start, parent_first, no_parent}
use Rattle.lvs_rules.proofs.parents.parent_of.Goals as goal

pub loop-element-init : goal.loop-element-init
loop-element-init c =
    ap parent_left (ap elements_left c.into_iter-element-iterator.ensures.into_iter_gives ∙ c.of-element-items.ensures.left) ∙ parent_start _

pub returns-then-element-eq-PARENT : goal.returns-then-element-eq-PARENT
returns-then-element-eq-PARENT c =
    c.index_of.ensures ∙ rw c.number_of.ensures
    (sym (parent_first _ _ c.if-element-eq-PARENT.true) ∙ sym (ap parent_left c.in-Some.ensures.steps) ∙ c.loop-element.invariant)

pub loop-element-preserved : goal.loop-element-preserved
loop-element-preserved c =
    sym (no_parent _ _ c.if-element-eq-PARENT.false) ∙ sym (ap parent_left c.in-Some.ensures.steps) ∙ c.loop-element.invariant

pub returns : goal.returns
returns c = sym (ap parent_left c.in-None.ensures.steps.0) ∙ c.loop-element.invariant
