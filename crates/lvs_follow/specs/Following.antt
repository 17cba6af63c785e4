-- Following a path through the bytes of a model, one word and one component at a step.
use Rattle.std.specs.Prelude.{ℕ, ◌≡◌, List, [], ◌∷◌, ◌++◌}
use Rattle.std.proofs.Math.Option as math
use Rattle.std.proofs.Math.ListN.{get_elem?}
use Rattle.std.specs.declared.option.Option.{Option}
use Rattle.std.specs.declared.option.Option.TheVariants.{None, Some}
use Rattle.tlv.specs.Lists.{bind}
use Rattle.lvs_spec.specs.Model.{Model, edges, node_at}
use Rattle.lvs_spec.specs.Walk.{Binding, Match, begin, cross, follow}
use Rattle.lvs_spec.specs.Demands.{OnlyNamed}
use Rattle.lvs_spec.specs.declared.refusal.Side.{Side}
use Rattle.lvs_bindings.specs.Slots.{bindings_of}
use Rattle.lvs_bindings.specs.declared.Span.{Span}
use Rattle.lvs_edges.specs.Crossing.{reached, arriving}
use Rattle.lvs_edges.specs.Sides.{row_for}
use Rattle.lvs_edges.specs.declared.Crossing.{Crossing}

-- the edge of the Node v with ordinal n, where there is one, crossed from any match there
pub record Stepped (m : Model) (packet key : List ℕ) (v n : ℕ) (b : Binding) (before : List (Option Span)) (r : Option Crossing)
    (after : List (Option Span)) : Type 0 where
  pub leads : (x : Match) → x.node ≡ v → x.bindings ≡ bindings_of packet key before
      → bind (get_elem? (edges (node_at m x.node)) n) (cross m b x n) ≡ bind (reached r (bindings_of packet key after)) (arriving (x.path ++ (n ∷ [])))
  pub only_named : OnlyNamed m.pattern_count (bindings_of packet key after)

-- ---- a whole name

-- the match at a path's end, if it has one, with these slots
abbrev pub match_at : List ℕ → List ℕ → List ℕ → Option ℕ → List (Option Span) → math.Option Match
match_at packet key path (Some v) slots = math.some (record { node = v; bindings = bindings_of packet key slots; path = path })
match_at packet key path None slots = math.none

-- where the path leads through the components of a name from a place on
pub record Led (m : Model) (packet key : List ℕ) (side : Side) (from : ℕ) (path : List ℕ) (before : List (Option Span)) (r : Option ℕ)
    (after : List (Option Span)) : Type 0 where
  pub is : follow m (row_for packet key side from) path (begin m (bindings_of packet key before)) ≡ match_at packet key path r after
  pub only_named : OnlyNamed m.pattern_count (bindings_of packet key after)
