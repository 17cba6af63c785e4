use Rattle.std.proofs.Common.{refl}
use Rattle.lvs_write.proofs.Places.{header_fits, inside_fits, puts_all, puts_none}
use Rattle.lvs_write.proofs.leaves.put_text.Goals as goal

pub put_header-inside-requires : goal.put_header-inside-requires
put_header-inside-requires c = header_fits _ _ _ c.element_size-size.ensures _ c.has_room.ensures c.if-has_room.true

pub put_bytes-requires : goal.put_bytes-requires
put_bytes-requires c =
    inside_fits _ _ _ c.element_size-size.ensures c.has_room.ensures c.if-has_room.true c.put_header-inside.ensures

pub returns-then-has_room : goal.returns-then-has_room
returns-then-has_room c = puts_all _ _ _ c.element_size-size.ensures refl c.put_header-inside.ensures c.put_bytes.ensures

pub returns-else-has_room : goal.returns-else-has_room
returns-else-has_room c = puts_none _ _ _ c.element_size-size.ensures _ refl c.has_room.ensures c.if-has_room.false
