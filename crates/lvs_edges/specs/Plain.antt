-- Edges whose fields stand at fixed places, and what the fields of any edge are.
use Rattle.std.specs.Prelude.{ℕ, ◌-◌, ◌≤◌, ◌≡◌, List, length, drop, get_or}
use Rattle.tlv.specs.Fields.{insides, the_integer}
use Rattle.lvs_spec.specs.Types as type
use Rattle.lvs_edges.specs.declared.fields.PatternFields.{PatternFields}

-- an edge that begins with a NodeId of one byte
pub record PlainNode (s : List ℕ) : Type 0 where
  pub long : 3 ≤ length s
  pub node : get_or s 0 0 ≡ type.NodeId
  pub node_size : get_or s 1 0 ≡ 1

-- such a NodeId, and a Value that ends the edge, its length of one byte too
pub record PlainValue (s : List ℕ) : Type 0 where
  pub begins : PlainNode s
  pub long : 5 ≤ length s
  pub short : length s ≤ 257
  pub value : get_or s 3 0 ≡ type.Value
  pub value_size : get_or s 4 0 ≡ length s - 5

-- begins with such a NodeId and a Tag of one byte
pub record PlainPattern (s : List ℕ) : Type 0 where
  pub begins : PlainNode s
  pub long : 6 ≤ length s
  pub tag : get_or s 3 0 ≡ type.Tag
  pub tag_size : get_or s 4 0 ≡ 1

-- the fields of a PatternEdge, and a place in it from which on all its Constraints are
pub record FieldsOf (s : List ℕ) (f : PatternFields) : Type 0 where
  pub destination : f.dest ≡ the_integer type.NodeId s
  pub tag_is : f.tag ≡ the_integer type.Tag s
  pub within : f.rest ≤ length s
  pub constraints : insides type.Constraint (drop f.rest s) ≡ insides type.Constraint s
