-- `tlv_reader::inside_at` meets its contract: the part that an element says is its inside. Assumes nothing.
use Rattle.std.proofs.Common.{arith}
use Rattle.tlv.proofs.Cuts.{seen, SeenOf}
use Rattle.tlv_reader.proofs.Laws.{inside_found, inside_end, inside_malformed}
use Rattle.tlv_reader.proofs.inside_at.Goals as goal

-- the element that was found
step : (c : goal.In-Found) → SeenOf _ _ c.element_at.ensures c.in-Found.is
step c = seen _ _ c.element_at.ensures c.in-Found.is

pub slice_bounds-result-count : goal.slice_bounds-result-count
slice_bounds-result-count c = let st = step c in omega arith

pub slice_bounds-result-start : goal.slice_bounds-result-start
slice_bounds-result-start c = let st = step c in omega arith

pub slice_bounds-result-end : goal.slice_bounds-result-end
slice_bounds-result-end c = let st = step c in omega arith

pub returns-in-Found : goal.returns-in-Found
returns-in-Found c = inside_found _ _ c.element_at.ensures c.in-Found.is

pub returns-in-End : goal.returns-in-End
returns-in-End c = inside_end _ _ c.element_at.ensures c.in-End.is

pub returns-in-Malformed : goal.returns-in-Malformed
returns-in-Malformed c = inside_malformed _ _ c.element_at.ensures c.in-Malformed.is
