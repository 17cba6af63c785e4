use Rattle.std.proofs.Common.{rules}
use Rattle.lvs_write.proofs.Places.{component_size, component_small, component_stored, header_fits, puts_none}
use Rattle.lvs_write.proofs.leaves.put_component.Goals as goal

pub element_size-size-requires : goal.element_size-size-requires
element_size-size-requires c = component_small _ c.args.src.now c.element_size-n.ensures (search rules)

pub put_header-inside-requires : goal.put_header-inside-requires
put_header-inside-requires c = header_fits _ _ _ c.element_size-size.ensures _ c.has_room.ensures c.if-has_room.true

pub returns-then-has_room : goal.returns-then-has_room
returns-then-has_room c =
    component_stored _ _ _ _ _ c.element_size-n.ensures c.element_size-size.ensures c.has_room.ensures c.if-has_room.true
    c.put_header-inside.ensures c.put_text.ensures

pub returns-else-has_room : goal.returns-else-has_room
returns-else-has_room c =
    puts_none _ _ _ c.element_size-size.ensures _ (component_size _ _ c.element_size-n.ensures) c.has_room.ensures c.if-has_room.false
