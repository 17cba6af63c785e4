-- A Node has no more edges than its model has bytes, so that an ordinal fits a word of a path. Assumes nothing.
use Prim.Native.Nat.{ℕ, ◌≤◌}
use mathlib.Core.Path.{ap}
use mathlib.Core.List.{List}
use native.Mathlib.Omega.{arith}
use lib.ListN.{length}
use Rattle.lvs_spec.specs.Types as type
use Rattle.lvs_spec.specs.Model.{edges, node_at, model_of}
use Rattle.lvs_edges.specs.Nodes.{node_inside, Walkable}
use Rattle.lvs_edges.proofs.Sizes.{inside_within, file_edges_few}
use Rattle.lvs_edges.proofs.Bodies.{edges_of}

pub edges_few : (b : List ℕ) → Walkable b → (v : ℕ) → length (edges (node_at (model_of b) v)) ≤ length b
unfolding node_inside
edges_few b W v = omega (arith, ap length (edges_of W v), file_edges_few (node_inside b v), inside_within type.Node b v)
