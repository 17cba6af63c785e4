-- Where in a model the edges and signers of each Node are.
use Rattle.std.specs.Prelude.{ℕ, ◌-◌, ◌≤◌, ◌≡◌, Bool, ◌||◌, List, [], eqb, length, take, drop, get_or}
use Rattle.tlv.specs.Fields.{insides, integers}
use Rattle.lvs_spec.specs.Limits.{max_model_bytes, max_nodes}
use Rattle.lvs_spec.specs.Types as type
use Rattle.lvs_spec.specs.Model.{edges, node_at, node_of, model_of}
use Rattle.lvs_edges.specs.Edges.{file_edges}
use Rattle.lvs_edges.specs.declared.body.Body.{Body}

-- the inside of the Node with this index; nothing where there is none
unfoldable pub node_inside : List ℕ → ℕ → List ℕ
node_inside model v = get_or (insides type.Node model) v []

-- a model that can be walked: short, of few Nodes, and in each of them the edges stand in the order in which they are tried.
-- An accepted model is one
pub record Walkable (model : List ℕ) : Type 0 where
  pub short : length model ≤ max_model_bytes
  pub few : length (insides type.Node model) ≤ max_nodes
  pub ordered : (v : ℕ) → file_edges (node_inside model v) ≡ edges (node_of (node_inside model v))

-- what the walk looks for in a Node: edges and signers, its body
unfoldable pub in_body : ℕ → Bool
in_body t = eqb t type.ValueEdge || eqb t type.PatternEdge || eqb t type.SignConstraint

-- from this place on there are all those of s
pub record BodyFrom (s : List ℕ) (at : ℕ) : Type 0 where
  pub within : at ≤ length s
  pub edges_are : file_edges (drop at s) ≡ file_edges s
  pub signers_are : insides type.SignConstraint (drop at s) ≡ insides type.SignConstraint s

-- a part of the model
pub record LiesIn (model : List ℕ) (b : Body) : Type 0 where
  pub order : b.start ≤ b.end
  pub within : b.end ≤ length model

abbrev pub part_of : List ℕ → Body → List ℕ
part_of model b = take (b.end - b.start) (drop b.start model)

abbrev pub nowhere : Body
nowhere = record { start = 0; end = 0 }

-- the body of the Node v, as it was read
abbrev pub body_at : List ℕ → List Body → ℕ → List ℕ
body_at model bodies v = part_of model (get_or bodies v nowhere)

-- the edges and signers of every Node, and of those that a model of few bytes does not have
pub record NodesAt (model : List ℕ) (bodies : List Body) : Type 0 where
  pub lies : (v : ℕ) → LiesIn model (get_or bodies v nowhere)
  pub edges_are : (v : ℕ) → file_edges (body_at model bodies v) ≡ edges (node_at (model_of model) v)
  pub signers_are : (v : ℕ) → integers type.SignConstraint (body_at model bodies v) ≡ (node_at (model_of model) v).signers
  pub short : (v : ℕ) → length (body_at model bodies v) ≤ max_model_bytes
