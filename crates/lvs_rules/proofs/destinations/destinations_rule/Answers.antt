-- `lvs_rules::destinations::destinations_rule` meets its contract. Assumes nothing.
use Rattle.std.proofs.Common.{◌∙◌, refl, ap, inl, inr}
use mathlib.Core.Logic.{⊎_elim}
use Rattle.tlv.specs.Answers.{elements_left}
use Rattle.lvs_rules.proofs.Parallel.{none_led, led_end, led_past, led_more}
use Rattle.lvs_rules.proofs.destinations.destinations_rule.Goals as goal

pub loop-element-init : goal.loop-element-init
loop-element-init c =
    rw (ap elements_left c.into_iter-element-iterator.ensures.into_iter_gives ∙ c.of-element-items.ensures.left) (none_led refl)

pub parallel_rule-requires : goal.parallel_rule-requires
parallel_rule-requires c = c.loop-element.invariant.size

pub loop-element-preserved-in-loop-element : goal.loop-element-preserved-in-loop-element
loop-element-preserved-in-loop-element c =
    let inv = rw c.in-Some.ensures.steps at c.loop-element.invariant in
    let an_edge = ⊎_elim (λ e. inl e) (λ (n, e). inr e) c.then-element-eq-VALUE_EDGE.either in
    led_more inv c.requires an_edge c.number_in-d.ensures c.destination_rule-own.ensures c.parallel_rule.ensures c.lower.ensures c.lower-rule.ensures

pub loop-element-preserved : goal.loop-element-preserved
loop-element-preserved c =
    let inv = rw c.in-Some.ensures.steps at c.loop-element.invariant in
    led_past inv (⊎_elim c.if-element-eq-VALUE_EDGE.false c.if-element-eq-PATTERN_EDGE.false)

pub returns : goal.returns
returns c = let inv = rw c.in-None.ensures.steps.0 at c.loop-element.invariant in led_end inv
