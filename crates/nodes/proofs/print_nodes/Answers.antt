-- Each element that is found leaves less of the slice, by the law `seen`.
use Rattle.std.proofs.Common.{arith}
use Rattle.tlv.proofs.Cuts.{seen}
use Rattle.nodes.proofs.print_nodes.Goals as goal

pub loop-typ-smaller-then-typ-eq-NODE : goal.loop-typ-smaller-then-typ-eq-NODE
loop-typ-smaller-then-typ-eq-NODE c = omega (arith, seen _ _ c.element_from.ensures c.in-Found.is)

pub loop-typ-smaller : goal.loop-typ-smaller
loop-typ-smaller c = omega (arith, seen _ _ c.element_from.ensures c.in-Found.is)
