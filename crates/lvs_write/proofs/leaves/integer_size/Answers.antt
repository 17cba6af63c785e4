use Rattle.std.proofs.Common.{arith}
use Rattle.lvs_write.proofs.Places.{width_most, integer_length}
use Rattle.lvs_write.proofs.leaves.integer_size.Goals as goal

pub element_size-requires : goal.element_size-requires
element_size-requires c = omega (arith, width_most _ c.integer_width.ensures)

pub returns : goal.returns
returns c = integer_length _ _ c.integer_width.ensures c.element_size.ensures
