use Rattle.std.proofs.Common.{refl, sym, ap, ◌∙◌}
use Rattle.tlv.specs.Answers.{elements_left}
use Rattle.lvs_spec.specs.Model.{Argument}
use Rattle.lvs_describe.proofs.Puts.{describes_as}
use Rattle.lvs_describe.proofs.Loops.{first_argument, argument_listed, value_first, tag_first, other_first}
use Rattle.lvs_describe.proofs.Containers.{value_argument, tag_argument}
use Rattle.lvs_describe.proofs.parts.put_argument.Goals as goal

pub loop-element-init : goal.loop-element-init
loop-element-init c =
    let all = ap elements_left c.into_iter-element-iterator.ensures.into_iter_gives ∙ c.of-element-items.ensures.left in
    (ap first_argument all ∙ sym (argument_listed _), refl)

pub returns-then-element-eq-VALUE : goal.returns-then-element-eq-VALUE
returns-then-element-eq-VALUE c =
    let is = sym c.loop-element.invariant.0 ∙ ap first_argument c.in-Some.ensures.steps ∙ value_first _ _ c.if-element-eq-VALUE.true in
    rw (← c.loop-element.invariant.1) (describes_as (value_argument _ _ is) c.put_component.ensures)

pub returns-then-element-eq-TAG : goal.returns-then-element-eq-TAG
returns-then-element-eq-TAG c =
    let is = sym c.loop-element.invariant.0 ∙ ap first_argument c.in-Some.ensures.steps ∙ tag_first _ _ c.if-element-eq-TAG.true in
    rw (← c.loop-element.invariant.1) (describes_as (tag_argument _ (is ∙ ap Argument.tag (sym c.number_of.ensures))) c.pair.ensures)

pub loop-element-preserved : goal.loop-element-preserved
loop-element-preserved c =
    let other = other_first _ _ c.if-element-eq-VALUE.false c.if-element-eq-TAG.false in
    (sym other ∙ sym (ap first_argument c.in-Some.ensures.steps) ∙ c.loop-element.invariant.0, c.loop-element.invariant.1)

pub returns : goal.returns
returns c =
    let is = sym c.loop-element.invariant.0 ∙ ap first_argument c.in-None.ensures.steps.0 in
    rw (← c.loop-element.invariant.1) (describes_as (tag_argument _ is) c.pair-2.ensures)
