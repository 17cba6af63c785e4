-- `lvs_edges::cross_value` meets its contract. Assumes nothing.
use borrow.Author.Tests.{not-false, not-true}
use Rattle.lvs_edges.proofs.Crossed.{value_shut, value_open}
use Rattle.lvs_edges.proofs.cross_value.Goals as goal

pub returns-then-not-compare : goal.returns-then-not-compare
returns-then-not-compare c = value_shut _ _ c.value_of.ensures c.compare.ensures.equal (not-true _ c.if-not-compare.true)

pub returns : goal.returns
returns c = value_open _ _ c.value_of.ensures c.compare.ensures.equal (not-false _ c.if-not-compare.false) c.destination.ensures
