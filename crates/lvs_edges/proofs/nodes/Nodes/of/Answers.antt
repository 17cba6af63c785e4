-- `lvs_edges::nodes::Nodes::of` meets its contract. Assumes nothing.
use Rattle.std.proofs.Common.{arith}
use Rattle.tlv.proofs.Cuts.{seen, SeenOf}
use Rattle.tlv.proofs.Gathered.{stop_end, stop_malformed}
use Rattle.lvs_edges.proofs.Filled.{filled_first, filled_node, filled_other, filled_all, more, body_low}
use Rattle.lvs_edges.proofs.nodes.Nodes.of.Goals as goal

pub loop-typ-init : goal.loop-typ-init
loop-typ-init c = (omega arith, filled_first _)

pub slice_bounds-body_of-count : goal.slice_bounds-body_of-count
slice_bounds-body_of-count c = (seen _ _ c.element.ensures c.in-Found.is).order

pub slice_bounds-body_of-start : goal.slice_bounds-body_of-start
slice_bounds-body_of-start c = (seen _ _ c.element.ensures c.in-Found.is).order

pub slice_bounds-body_of-end : goal.slice_bounds-body_of-end
slice_bounds-body_of-end c = (seen _ _ c.element.ensures c.in-Found.is).within

pub overflow_cast-bodies : goal.overflow_cast-bodies
overflow_cast-bodies c =
    let st : SeenOf _ _ c.element.ensures c.in-Found.is = seen _ _ c.element.ensures c.in-Found.is in
    omega (arith, body_low c.loop-typ.invariant.1 st c.if-typ-eq-NODE.true c.body_of.ensures, st.within, c.requires.short)

pub overflow_cast-bodies-then-typ-eq-NODE : goal.overflow_cast-bodies-then-typ-eq-NODE
overflow_cast-bodies-then-typ-eq-NODE c =
    let st : SeenOf _ _ c.element.ensures c.in-Found.is = seen _ _ c.element.ensures c.in-Found.is in omega (arith, st.within, c.requires.short)

pub bounds-bodies-n : goal.bounds-bodies-n
bounds-bodies-n c =
    omega (arith, more c.loop-typ.invariant.1 (seen _ _ c.element.ensures c.in-Found.is) c.if-typ-eq-NODE.true, c.requires.few)

pub loop-typ-smaller-then-typ-eq-NODE : goal.loop-typ-smaller-then-typ-eq-NODE
loop-typ-smaller-then-typ-eq-NODE c =
    let st : SeenOf _ _ c.element.ensures c.in-Found.is = seen _ _ c.element.ensures c.in-Found.is in omega arith

pub loop-typ-preserved-then-typ-eq-NODE : goal.loop-typ-preserved-then-typ-eq-NODE
loop-typ-preserved-then-typ-eq-NODE c =
    let st : SeenOf _ _ c.element.ensures c.in-Found.is = seen _ _ c.element.ensures c.in-Found.is in
    (omega (arith, st.moved, st.within), filled_node c.loop-typ.invariant.1 st c.if-typ-eq-NODE.true c.requires c.body_of.ensures)

pub loop-typ-smaller : goal.loop-typ-smaller
loop-typ-smaller c =
    let st : SeenOf _ _ c.element.ensures c.in-Found.is = seen _ _ c.element.ensures c.in-Found.is in omega arith

pub loop-typ-preserved : goal.loop-typ-preserved
loop-typ-preserved c =
    let st : SeenOf _ _ c.element.ensures c.in-Found.is = seen _ _ c.element.ensures c.in-Found.is in
    (omega (arith, st.moved, st.within), filled_other c.loop-typ.invariant.1 st c.if-typ-eq-NODE.false)

pub invariant_of-result : goal.invariant_of-result
invariant_of-result c = record { read = filled_all c.loop-typ.invariant.1 c.requires (stop_end _ _ c.element.ensures c.in-End.is) }

pub invariant_of-result-in-Malformed : goal.invariant_of-result-in-Malformed
invariant_of-result-in-Malformed c =
    record { read = filled_all c.loop-typ.invariant.1 c.requires (stop_malformed _ _ c.element.ensures c.in-Malformed.is) }
