-- `lvs_names::component_at` meets its contract. Assumes nothing.
use Rattle.std.proofs.Common.{arith}
use Rattle.tlv.proofs.Cuts.{seen}
use Rattle.lvs_names.proofs.Names.{nothing, row_none, row_next}
use Rattle.lvs_names.proofs.component_at.Goals as goal

pub returns-in_default : goal.returns-in_default
returns-in_default c = row_none _ _ (nothing _ _ c.element.ensures c.in_default.not-Found)

pub slice_bounds-new-count : goal.slice_bounds-new-count
slice_bounds-new-count c = let f = seen _ _ c.element.ensures c.in-Found.is in omega (arith, f.before, f.order)

pub slice_bounds-new-end : goal.slice_bounds-new-end
slice_bounds-new-end c = let f = seen _ _ c.element.ensures c.in-Found.is in omega (arith, f.before, f.order, f.within)

pub slice_bounds-new-start : goal.slice_bounds-new-start
slice_bounds-new-start c = let f = seen _ _ c.element.ensures c.in-Found.is in omega (arith, f.before, f.order, f.within)

pub overflow_sub-start : goal.overflow_sub-start
overflow_sub-start c = let f = seen _ _ c.element.ensures c.in-Found.is in omega (arith, f.before)

pub new-requires : goal.new-requires
new-requires c = (row_next _ (λ i. (c.type_inv.name i).fits) (seen _ _ c.element.ensures c.in-Found.is)).alone

pub returns : goal.returns
returns c = rw (c.new.ensures.0, c.new.ensures.1) (row_next _ (λ i. (c.type_inv.name i).fits) (seen _ _ c.element.ensures c.in-Found.is))
