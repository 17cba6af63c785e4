use Rattle.std.proofs.Common.{ap, ◌∙◌, arith}
use Rattle.tlv.specs.Answers.{elements_left}
use Rattle.lvs_describe.proofs.Loops.{tallied_first, tally_by, tally_within}
use Rattle.lvs_describe.proofs.rows.count_each.Goals as goal

pub loop-element-init : goal.loop-element-init
loop-element-init c = tallied_first _ (ap elements_left c.into_iter-element-iterator.ensures.into_iter_gives ∙ c.of-element-items.ensures.left)

pub overflow_add-count : goal.overflow_add-count
overflow_add-count c = omega (arith, tally_within c.loop-element.invariant.parents_in c.in-Some.ensures.steps c.holds.ensures c.from.ensures)

pub overflow_add-count-in-loop-element : goal.overflow_add-count-in-loop-element
overflow_add-count-in-loop-element c =
    omega (arith, tally_within c.loop-element.invariant.names_in c.in-Some.ensures.steps c.holds-in-loop-element.ensures c.from-in-loop-element.ensures)

pub overflow_add-count-in-loop-element-2 : goal.overflow_add-count-in-loop-element-2
overflow_add-count-in-loop-element-2 c =
    omega (arith, tally_within c.loop-element.invariant.values_in c.in-Some.ensures.steps c.holds-in-loop-element-2.ensures c.from-in-loop-element-2.ensures)

pub overflow_add-count-in-loop-element-3 : goal.overflow_add-count-in-loop-element-3
overflow_add-count-in-loop-element-3 c =
    omega (arith, tally_within c.loop-element.invariant.patterns_in c.in-Some.ensures.steps c.holds-in-loop-element-3.ensures c.from-in-loop-element-3.ensures)

pub overflow_add-count-in-loop-element-4 : goal.overflow_add-count-in-loop-element-4
overflow_add-count-in-loop-element-4 c =
    omega (arith, tally_within c.loop-element.invariant.signers_in c.in-Some.ensures.steps c.holds-in-loop-element-4.ensures c.from-in-loop-element-4.ensures)

pub loop-element-preserved : goal.loop-element-preserved
loop-element-preserved c =
    record {
      parents_in = tally_by c.loop-element.invariant.parents_in c.in-Some.ensures.steps c.holds.ensures c.from.ensures;
      names_in = tally_by c.loop-element.invariant.names_in c.in-Some.ensures.steps c.holds-in-loop-element.ensures c.from-in-loop-element.ensures;
      values_in = tally_by c.loop-element.invariant.values_in c.in-Some.ensures.steps c.holds-in-loop-element-2.ensures c.from-in-loop-element-2.ensures;
      patterns_in = tally_by c.loop-element.invariant.patterns_in c.in-Some.ensures.steps c.holds-in-loop-element-3.ensures c.from-in-loop-element-3.ensures;
      signers_in = tally_by c.loop-element.invariant.signers_in c.in-Some.ensures.steps c.holds-in-loop-element-4.ensures c.from-in-loop-element-4.ensures;
    }
