-- `lvs_rules::lowest_fault` meets its contract. Assumes nothing.
use Rattle.std.proofs.Common.{◌∙◌, arith, ap}
use Rattle.tlv.specs.Answers.{elements_left}
use Rattle.lvs_rules.proofs.Loops.{none_scanned, node_index, node_scanned, node_passed, all_scanned}
use Rattle.lvs_rules.proofs.lowest_fault.Goals as goal

pub loop-element-init : goal.loop-element-init
loop-element-init c =
    rw (ap elements_left c.into_iter-element-iterator.ensures.into_iter_gives ∙ c.of-element-items.ensures.left) (none_scanned _ _)

pub node_rule-rule-requires : goal.node_rule-rule-requires
node_rule-rule-requires c =
    let inv = rw c.in-Some.ensures.steps at c.loop-element.invariant in
    (omega (arith, c.requires.0, c.requires.1), omega (arith, c.requires.1, node_index _ inv c.if-element-eq-NODE.true))

pub loop-element-preserved-then-element-eq-NODE : goal.loop-element-preserved-then-element-eq-NODE
loop-element-preserved-then-element-eq-NODE c =
    let inv = rw c.in-Some.ensures.steps at c.loop-element.invariant in
    node_scanned _ inv c.if-element-eq-NODE.true c.node_rule-rule.ensures c.earlier-fault.ensures

pub loop-element-preserved : goal.loop-element-preserved
loop-element-preserved c = let inv = rw c.in-Some.ensures.steps at c.loop-element.invariant in node_passed _ inv c.if-element-eq-NODE.false

pub returns : goal.returns
returns c = let inv = rw c.in-None.ensures.steps.0 at c.loop-element.invariant in all_scanned _ inv
