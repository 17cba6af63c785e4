-- A Node's edges as they stand in its bytes.
use Rattle.std.specs.Prelude.{ℕ, List, ◌++◌, eqb}
use Rattle.tlv.specs.Element.{Element, cuts}
use Rattle.tlv.specs.Lists.{when}
use Rattle.tlv.specs.Fields.{each_cut}
use Rattle.lvs_spec.specs.Types as type
use Rattle.lvs_spec.specs.Model.{Edge, value_edge_of, pattern_edge_of}
use Rattle.lvs_edges.specs.declared.EdgeKind.{EdgeKind}
use Rattle.lvs_edges.specs.declared.EdgeKind.TheVariants.{Value, Pattern}

-- the edge of a kind with this inside
unfoldable pub edge_of : EdgeKind → List ℕ → Edge
edge_of Value b = Edge.value (value_edge_of b)
edge_of Pattern b = Edge.pattern (pattern_edge_of b)

unfoldable pub edge_from : Element → List Edge
edge_from e =
    when (eqb type.ValueEdge e.type) (edge_of Value e.inside) ++ when (eqb type.PatternEdge e.type) (edge_of Pattern e.inside)

-- the edges of a Node with this inside, in file order. In a well-formed Node they are `edges` of it: ValueEdges stand before PatternEdges
unfoldable pub file_edges : List ℕ → List Edge
file_edges b = each_cut edge_from (cuts b)
