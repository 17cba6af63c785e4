use Rattle.std.proofs.Common.{arith}
use Rattle.lvs_write.proofs.Places.{width_most, width_digits, integer_size_lem, integer_stored, header_fits, inside_fits, puts_all, puts_none}
use Rattle.lvs_write.proofs.leaves.put_integer.Goals as goal

pub element_size-size-requires : goal.element_size-size-requires
element_size-size-requires c = omega (arith, width_most _ c.integer_width-w.ensures)

pub put_header-inside-requires : goal.put_header-inside-requires
put_header-inside-requires c = header_fits _ _ _ c.element_size-size.ensures _ c.has_room.ensures c.if-has_room.true

pub put_digits-requires : goal.put_digits-requires
put_digits-requires c =
    width_digits _ c.integer_width-w.ensures (omega arith)
    (inside_fits _ _ _ c.element_size-size.ensures c.has_room.ensures c.if-has_room.true c.put_header-inside.ensures)

pub returns-then-has_room : goal.returns-then-has_room
returns-then-has_room c =
    puts_all _ _ _ c.element_size-size.ensures (integer_size_lem _ c.integer_width-w.ensures) c.put_header-inside.ensures
    (integer_stored _ c.integer_width-w.ensures c.put_digits.ensures)

pub returns-else-has_room : goal.returns-else-has_room
returns-else-has_room c =
    puts_none _ _ _ c.element_size-size.ensures _ (integer_size_lem _ c.integer_width-w.ensures) c.has_room.ensures c.if-has_room.false
