-- `lvs_edges::Edges` gives the edges among the elements, one after the other. Assumes nothing.
use Rattle.std.proofs.Common.{refl, ap, ◌∙◌, arith, rules, length}
use Rattle.tlv.specs.Lists.{each}
use Rattle.lvs_edges.specs.Edges.{edge_from}
use Rattle.lvs_edges.proofs.Listed.{next_value, next_pattern, next_other}
use Rattle.lvs_edges.proofs.EdgesIterator.next.Goals as goal

pub loop-e-init : goal.loop-e-init
loop-e-init c = refl

pub returns-then-e-eq-VALUE_EDGE-clause-steps : goal.returns-then-e-eq-VALUE_EDGE-clause-steps
returns-then-e-eq-VALUE_EDGE-clause-steps c = c.loop-e.invariant ∙ next_value c.in-Some.ensures.steps c.if-e-eq-VALUE_EDGE.true

pub returns-then-e-eq-VALUE_EDGE-clause-goes : goal.returns-then-e-eq-VALUE_EDGE-clause-goes
returns-then-e-eq-VALUE_EDGE-clause-goes c =
    let shorter = ap length (c.loop-e.invariant ∙ next_value c.in-Some.ensures.steps c.if-e-eq-VALUE_EDGE.true) in search rules

pub returns-then-e-eq-PATTERN_EDGE-clause-steps : goal.returns-then-e-eq-PATTERN_EDGE-clause-steps
returns-then-e-eq-PATTERN_EDGE-clause-steps c = c.loop-e.invariant ∙ next_pattern c.in-Some.ensures.steps c.if-e-eq-PATTERN_EDGE.true

pub returns-then-e-eq-PATTERN_EDGE-clause-goes : goal.returns-then-e-eq-PATTERN_EDGE-clause-goes
returns-then-e-eq-PATTERN_EDGE-clause-goes c =
    let shorter = ap length (c.loop-e.invariant ∙ next_pattern c.in-Some.ensures.steps c.if-e-eq-PATTERN_EDGE.true) in search rules

pub loop-e-smaller : goal.loop-e-smaller
loop-e-smaller c = let shorter = ap length c.in-Some.ensures.steps in omega arith

pub loop-e-preserved : goal.loop-e-preserved
loop-e-preserved c = c.loop-e.invariant ∙ next_other c.in-Some.ensures.steps c.if-e-eq-VALUE_EDGE.false c.if-e-eq-PATTERN_EDGE.false

pub returns-clause-steps : goal.returns-clause-steps
returns-clause-steps c =
    let ends = c.in_default.ensures.steps in (c.loop-e.invariant ∙ ap (each edge_from) ends.0, ap (each edge_from) ends.1)
