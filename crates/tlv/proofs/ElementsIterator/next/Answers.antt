-- `tlv::Elements` gives the elements of its slice, one after the other. Assumes nothing.
use Rattle.std.proofs.Common.{rules, ap, length}
use Rattle.tlv.proofs.Cuts.{seen, SeenOf}
use Rattle.tlv.proofs.Gathered.{stop_end, stop_malformed}
use Rattle.tlv.proofs.Fields.{elements_next, elements_stop}
use Rattle.tlv.proofs.ElementsIterator.next.Goals as goal

pub slice_bounds-result-count : goal.slice_bounds-result-count
slice_bounds-result-count c = (seen _ _ c.element.ensures c.in-Found.is).order

pub slice_bounds-result-start : goal.slice_bounds-result-start
slice_bounds-result-start c = let st : SeenOf _ _ c.element.ensures c.in-Found.is = seen _ _ c.element.ensures c.in-Found.is in search rules

pub slice_bounds-result-end : goal.slice_bounds-result-end
slice_bounds-result-end c = let st : SeenOf _ _ c.element.ensures c.in-Found.is = seen _ _ c.element.ensures c.in-Found.is in search rules

pub returns-in-Found-clause-steps : goal.returns-in-Found-clause-steps
returns-in-Found-clause-steps c = elements_next (seen _ _ c.element.ensures c.in-Found.is)

pub returns-in-Found-clause-goes : goal.returns-in-Found-clause-goes
returns-in-Found-clause-goes c = let shorter = ap length (elements_next (seen _ _ c.element.ensures c.in-Found.is)) in search rules

pub returns-in-End : goal.returns-in-End
returns-in-End c = let none = elements_stop (stop_end _ _ c.element.ensures c.in-End.is) in search rules

pub returns-in-Malformed : goal.returns-in-Malformed
returns-in-Malformed c = let none = elements_stop (stop_malformed _ _ c.element.ensures c.in-Malformed.is) in search rules
