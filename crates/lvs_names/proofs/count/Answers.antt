-- `lvs_names::count` meets its contract. Assumes nothing.
use Rattle.std.proofs.Common.{arith}
use Rattle.tlv.proofs.Cuts.{seen}
use Rattle.tlv.proofs.Gathered.{started}
use Rattle.lvs_names.proofs.Names.{count_none, count_broken, count_large, count_one}
use Rattle.lvs_names.proofs.count.Goals as goal

pub loop-typ-init : goal.loop-typ-init
loop-typ-init c = (omega arith, started)

pub returns-then-typ-gt-MAX_COMPONENT_TYPE : goal.returns-then-typ-gt-MAX_COMPONENT_TYPE
returns-then-typ-gt-MAX_COMPONENT_TYPE c =
    count_large c.loop-typ.invariant.1 (seen _ _ c.element.ensures c.in-Found.is) c.if-typ-gt-MAX_COMPONENT_TYPE.true

pub overflow_add-n : goal.overflow_add-n
overflow_add-n c = let st = seen _ _ c.element.ensures c.in-Found.is in omega (arith, c.loop-typ.invariant.0, st.before, st.within)

pub loop-typ-smaller : goal.loop-typ-smaller
loop-typ-smaller c = let st = seen _ _ c.element.ensures c.in-Found.is in omega arith

pub loop-typ-preserved : goal.loop-typ-preserved
loop-typ-preserved c =
    let st = seen _ _ c.element.ensures c.in-Found.is in
    (omega (arith, c.loop-typ.invariant.0), count_one c.loop-typ.invariant.1 st c.if-typ-gt-MAX_COMPONENT_TYPE.false)

pub returns-in-End : goal.returns-in-End
returns-in-End c = count_none c.loop-typ.invariant.1 (seen _ _ c.element.ensures c.in-End.is)

pub returns-in-Malformed : goal.returns-in-Malformed
returns-in-Malformed c = count_broken c.loop-typ.invariant.1 (seen _ _ c.element.ensures c.in-Malformed.is)
