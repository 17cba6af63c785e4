-- An edge as the definitions have it, and those that an iteration has left.
use Rattle.std.specs.Prelude.{List}
use Rattle.tlv.specs.Lists.{each}
use Rattle.tlv.specs.Answers.{elements_left}
use Rattle.lvs_spec.specs.Model as model
use Rattle.lvs_edges.specs.Edges.{edge_of, edge_from}
use Rattle.lvs_edges.specs.declared.Edge.{Edge}
use Rattle.lvs_edges.specs.declared.Edges.{Edges}

abbrev pub edge_is : Edge → model.Edge
edge_is e = edge_of e.kind e.inside.now

abbrev pub edges_left : Edges → List model.Edge
edges_left it = each edge_from (elements_left it.elements)
