-- The Nodes that edges lead to from the start, and what makes them a tree (docs/format.md, 5.4).
use Rattle.std.specs.Prelude.{ℕ, ◌<◌, ◌≡◌, List, [], ◌∷◌, length}
use Rattle.std.proofs.Math.Option.{Option, none, some}
use Rattle.std.proofs.Math.ListN.{get_elem?}
use Rattle.tlv.specs.Lists.{bind}
use Rattle.lvs_spec.specs.Model.{Model, node_at}
use Rattle.lvs_spec.specs.Verdict.{destinations}

-- the Node that the edges with these ordinals lead to, one after the other, from the Node v on; none where an edge is missing
unfoldable pub arrive : Model → ℕ → List ℕ → Option ℕ
arrive m v [] = some v
arrive m v (i ∷ p) = bind (get_elem? (destinations (node_at m v)) i) λ d. arrive m d p

-- the edges of the path p lead from the start to the Node v
abbrev pub Reaches : Model → List ℕ → ℕ → Type 0
Reaches m p v = arrive m m.start p ≡ some v

-- the edge of the Node v with ordinal i leads to d
abbrev pub Leads : Model → ℕ → ℕ → ℕ → Type 0
Leads m v i d = get_elem? (destinations (node_at m v)) i ≡ some d

-- the Nodes that are reached from the start form a tree, with the start as its root
pub record IsTree (m : Model) : Type 0 where
  -- what is reached is a Node of the model
  pub inside : (p : List ℕ) (v : ℕ) → Reaches m p v → v < length m.nodes
  -- by one path alone
  pub once : (p q : List ℕ) (v : ℕ) → Reaches m p v → Reaches m q v → p ≡ q
  -- so none is its own descendant: no edge or edges lead from it back to it
  pub acyclic : (p q : List ℕ) (v : ℕ) → Reaches m p v → arrive m v q ≡ some v → q ≡ []
  -- and no two edges lead to one Node
  pub entered_once : (p q : List ℕ) (v w i j d : ℕ) → Reaches m p v → Reaches m q w → Leads m v i d → Leads m w j d → (v ≡ w) × (i ≡ j)
  -- the Parents that the model states are the tree's: the start has none, and any other has the Node before it
  pub root : (node_at m m.start).parent ≡ none
  pub parent : (p : List ℕ) (v i d : ℕ) → Reaches m p v → Leads m v i d → (node_at m d).parent ≡ some v
