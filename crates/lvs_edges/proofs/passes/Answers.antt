-- `lvs_edges::passes` meets its contract. Assumes nothing.
use Rattle.std.proofs.Common.{sym, ◌∙◌}
use Rattle.lvs_edges.proofs.Crossed.{none_to_hold}
use Rattle.lvs_edges.proofs.passes.Goals as goal

pub returns-then-rest-s : goal.returns-then-rest-s
returns-then-rest-s c = none_to_hold (sym c.if-not-same_as.false ∙ c.same_as.ensures) c.if-rest-s.true
