-- `tlv_reader::count_of_type` meets its contract. Assumes nothing.
use Rattle.std.proofs.Common.{arith}
use Rattle.tlv.proofs.Cuts.{seen, SeenOf}
use Rattle.tlv_reader.proofs.Counting.{none_counted, room, one_more, no_more, counted_end, counted_broken}
use Rattle.tlv_reader.proofs.count_of_type.Goals as goal

pub loop-t-init : goal.loop-t-init
loop-t-init c = none_counted

pub overflow_add-n : goal.overflow_add-n
overflow_add-n c = omega (arith, room c.loop-t.invariant (seen _ _ c.element_from.ensures c.in-Found.is) c.if-t-typ.true)

pub loop-t-smaller-then-t-typ : goal.loop-t-smaller-then-t-typ
loop-t-smaller-then-t-typ c = let st : SeenOf _ _ c.element_from.ensures c.in-Found.is = seen _ _ c.element_from.ensures c.in-Found.is in omega arith

pub loop-t-preserved-then-t-typ : goal.loop-t-preserved-then-t-typ
loop-t-preserved-then-t-typ c = one_more c.loop-t.invariant (seen _ _ c.element_from.ensures c.in-Found.is) c.if-t-typ.true

pub loop-t-smaller : goal.loop-t-smaller
loop-t-smaller c = let st : SeenOf _ _ c.element_from.ensures c.in-Found.is = seen _ _ c.element_from.ensures c.in-Found.is in omega arith

pub loop-t-preserved : goal.loop-t-preserved
loop-t-preserved c = no_more c.loop-t.invariant (seen _ _ c.element_from.ensures c.in-Found.is) c.if-t-typ.false

pub returns-in-End : goal.returns-in-End
returns-in-End c = counted_end c.loop-t.invariant (seen _ _ c.element_from.ensures c.in-End.is)

pub returns-in-Malformed : goal.returns-in-Malformed
returns-in-Malformed c = counted_broken c.loop-t.invariant (seen _ _ c.element_from.ensures c.in-Malformed.is)
