-- `lvs_rules::parents::parents_of` meets its contract. Assumes nothing.
use Rattle.std.proofs.Common.{◌∙◌, arith, refl, ap}
use Rattle.tlv.specs.Answers.{elements_left}
use Rattle.lvs_rules.proofs.Loops.{none_filled, free, parent_filled, parent_passed, all_filled}
use Rattle.lvs_rules.proofs.parents.parents_of.Goals as goal

pub loop-element-init : goal.loop-element-init
loop-element-init c =
    rw (ap elements_left c.into_iter-element-iterator.ensures.into_iter_gives ∙ c.of-element-items.ensures.left) (none_filled _ _ refl c.requires)

pub bounds-parents-n : goal.bounds-parents-n
bounds-parents-n c = let inv = rw c.in-Some.ensures.steps at c.loop-element.invariant in omega (arith, inv.size, free inv c.if-element-eq-NODE.true)

pub loop-element-preserved-then-element-eq-NODE : goal.loop-element-preserved-then-element-eq-NODE
loop-element-preserved-then-element-eq-NODE c =
    let inv = rw c.in-Some.ensures.steps at c.loop-element.invariant in parent_filled inv c.if-element-eq-NODE.true c.parent_of.ensures

pub loop-element-preserved : goal.loop-element-preserved
loop-element-preserved c = let inv = rw c.in-Some.ensures.steps at c.loop-element.invariant in parent_passed inv c.if-element-eq-NODE.false

pub returns : goal.returns
returns c = let inv = rw c.in-None.ensures.steps.0 at c.loop-element.invariant in all_filled inv
