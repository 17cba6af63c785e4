use Rattle.std.proofs.Common.{refl, arith, rules}
use Rattle.lvs_write.proofs.Places.{component_small, edge_small, edge_length, header_fits, inside_fits, lent_room, puts_lent, puts_none}
use Rattle.lvs_write.proofs.leaves.put_value_edge.Goals as goal

pub element_size-requires-2 : goal.element_size-requires-2
element_size-requires-2 c = component_small _ c.args.src.now c.element_size.ensures (search rules)

pub overflow_add-n : goal.overflow_add-n
overflow_add-n c =
    omega (arith, edge_small _ _ c.args.src.now c.integer_size-first.ensures c.element_size.ensures c.element_size-2.ensures (search rules))

pub element_size-size-requires : goal.element_size-size-requires
element_size-size-requires c =
    edge_small _ _ c.args.src.now c.integer_size-first.ensures c.element_size.ensures c.element_size-2.ensures (search rules)

pub put_header-start-requires : goal.put_header-start-requires
put_header-start-requires c = header_fits _ _ _ c.element_size-size.ensures _ c.has_room.ensures c.if-has_room.true

pub overflow_add-end : goal.overflow_add-end
overflow_add-end c =
    omega (arith, (inside_fits _ _ _ c.element_size-size.ensures c.has_room.ensures c.if-has_room.true c.put_header-start.ensures))

pub slice_bounds-put_edge_inside-end : goal.slice_bounds-put_edge_inside-end
slice_bounds-put_edge_inside-end c = inside_fits _ _ _ c.element_size-size.ensures c.has_room.ensures c.if-has_room.true c.put_header-start.ensures

pub put_edge_inside-requires : goal.put_edge_inside-requires
put_edge_inside-requires c =
    lent_room _ _ _ (edge_length _ _ _ c.integer_size-first.ensures c.element_size.ensures c.element_size-2.ensures)
    (inside_fits _ _ _ c.element_size-size.ensures c.has_room.ensures c.if-has_room.true c.put_header-start.ensures)

pub returns-then-has_room : goal.returns-then-has_room
returns-then-has_room c =
    puts_lent _ _ _ c.element_size-size.ensures
    (edge_length _ _ _ c.integer_size-first.ensures c.element_size.ensures c.element_size-2.ensures) c.put_header-start.ensures refl
    (inside_fits _ _ _ c.element_size-size.ensures c.has_room.ensures c.if-has_room.true c.put_header-start.ensures) c.put_edge_inside.ensures

pub returns-else-has_room : goal.returns-else-has_room
returns-else-has_room c =
    puts_none _ _ _ c.element_size-size.ensures _
    (edge_length _ _ _ c.integer_size-first.ensures c.element_size.ensures c.element_size-2.ensures) c.has_room.ensures c.if-has_room.false
