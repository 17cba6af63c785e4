-- `lvs_edges::nodes::Nodes::edges` meets its contract. Assumes nothing.
use Rattle.std.proofs.Common.{sym, ap, ◌∙◌, arith, length}
use Rattle.tlv.specs.Lists.{each}
use Rattle.lvs_edges.specs.Edges.{edge_from, file_edges}
use Rattle.lvs_edges.specs.Nodes.{body_at}
use Rattle.lvs_edges.proofs.Listed.{edges_listed}
use Rattle.lvs_edges.proofs.Sizes.{file_edges_few}
use Rattle.lvs_edges.proofs.nodes.Nodes.edges.Goals as goal

pub returns-clause-left : goal.returns-clause-left
returns-clause-left c =
    ap (each edge_from) c.of.ensures.left ∙ sym (edges_listed _) ∙ ap file_edges c.body.ensures ∙ c.args.self.now.read.edges_are c.args.node

pub returns-clause-few : goal.returns-clause-few
returns-clause-few c =
    let same = ap (each edge_from) c.of.ensures.left ∙ sym (edges_listed _) ∙ ap file_edges c.body.ensures in
    let short = c.args.self.now.read.short c.args.node in
    omega (arith, ap length same, file_edges_few (body_at c.args.self.now.model.now c.args.self.now.bodies c.args.node), short)
