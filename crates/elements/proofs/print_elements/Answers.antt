-- Each element that is found leaves less of the slice, by the law `seen`.
use Rattle.std.proofs.Common.{arith}
use Rattle.tlv.proofs.Cuts.{seen}
use Rattle.elements.proofs.print_elements.Goals as goal

pub loop-typ-smaller : goal.loop-typ-smaller
loop-typ-smaller c = omega (arith, seen _ _ c.element.ensures c.in-Found.is)
