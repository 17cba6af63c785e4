-- Crossing an edge: where it leads, the bindings before and after it, and how to take back what it bound.
use Rattle.std.specs.Prelude.{ℕ, ◌<◌, ◌≤◌, ◌≡◌, Bool, true, cond, ◌&&◌, leb, List, length, drop}
use Rattle.std.proofs.Math.Option as math
use Rattle.std.specs.declared.option.Option.{Option}
use Rattle.std.specs.declared.option.Option.TheVariants.{None, Some}
use Rattle.tlv.specs.Lists.{bind, all}
use Rattle.lvs_spec.specs.Limits.{max_tag}
use Rattle.lvs_spec.specs.Model.{Edge, component_of, destination, pattern_edge_of}
use Rattle.lvs_spec.specs.Names.{same}
use Rattle.lvs_spec.specs.Walk.{Binding, Bindings, Match, bindings_after, constraint_holds}
use Rattle.lvs_spec.specs.Demands.{OnlyNamed}
use Rattle.lvs_bindings.specs.Names.{text_from}
use Rattle.lvs_bindings.specs.Slots.{bindings_of, slot_at, without}
use Rattle.lvs_bindings.specs.declared.Span.{Span}
use Rattle.lvs_edges.specs.Edges.{edge_of}
use Rattle.lvs_edges.specs.declared.EdgeKind.TheVariants.{Value}
use Rattle.lvs_edges.specs.declared.Crossing.{Crossing}

-- c is the bytes of the component at a place of the two names' text, and place and size fit a word
pub record Stands (packet key : List ℕ) (at : ℕ) (c : List ℕ) : Type 0 where
  pub content : component_of (text_from packet key at) ≡ component_of c
  pub low : at < 65536
  pub short : length c < 65536

-- where an edge is to be crossed: slots in which only named Tags are bound, and the component
pub record Ready (count : ℕ) (packet key : List ℕ) (at : ℕ) (c : List ℕ) (slots : List (Option Span)) : Type 0 where
  pub only_named : OnlyNamed count (bindings_of packet key slots)
  pub stands : Stands packet key at c

-- a Node that an edge leads to, and the bindings there
pub record Reached : Type 0 where
  pub node : ℕ
  pub bindings : Bindings

-- where an edge leads with the component of b; nothing where it is not crossed. `count` Tags are named
unfoldable pub leads_to : ℕ → Bindings → Binding → Edge → math.Option Reached
leads_to count s b e = bind (bindings_after count s b e) λ t. math.some (record { node = destination e; bindings = t })

-- what a crossing stands for, with these bindings after it
abbrev pub reached : Option Crossing → Bindings → math.Option Reached
reached None s = math.none
reached (Some x) s = math.some (record { node = x.node; bindings = s })

-- the match there, with the path that led to it
abbrev pub arriving : List ℕ → Reached → math.Option Match
arriving p q = math.some (record { node = q.node; bindings = q.bindings; path = p })

-- the bindings without the Tag that was bound, if one was
abbrev pub unbound : Option ℕ → Bindings → Bindings
unbound None s = s
unbound (Some t) s = without t s

abbrev pub taken_back : Option Crossing → Bindings → Bindings
taken_back None s = s
taken_back (Some x) s = unbound x.bound s

-- the Tag that it bound, if one was
abbrev pub new_tag : Option Crossing → Option ℕ
new_tag None = None
new_tag (Some x) = x.bound

-- a Tag, if there is one, that has a binding
abbrev pub InRange : Option ℕ → Type 0
InRange o = (t : ℕ) → o ≡ Some t → (0 < t) × (t ≤ max_tag)

-- what a Tag is bound to; a temporary one to nothing
unfoldable pub named_slot : ℕ → ℕ → List (Option Span) → Option Span
named_slot count tag slots = cond (leb tag count) (slot_at slots tag) None

-- c is what the Tag is bound to, if it is bound
abbrev pub same_as : List ℕ → List ℕ → Option Span → List ℕ → Bool
same_as packet key None c = true
same_as packet key (Some s) c = same (component_of (text_from packet key s.start)) (component_of c)

pub record Passed (packet key s : List ℕ) (rest : ℕ) (bound : Option Span) (c : List ℕ) (slots : List (Option Span)) (r : Bool) : Type 0 where
  pub is : r ≡ same_as packet key bound c && all (constraint_holds (bindings_of packet key slots) (component_of c)) (pattern_edge_of (drop rest s)).constraints

pub record Crossed (count : ℕ) (packet key : List ℕ) (e : Edge) (b : Binding) (before : List (Option Span)) (r : Option Crossing)
    (after : List (Option Span)) : Type 0 where
  pub leads : leads_to count (bindings_of packet key before) b e ≡ reached r (bindings_of packet key after)
  pub back : taken_back r (bindings_of packet key after) ≡ bindings_of packet key before
  pub low : InRange (new_tag r)

-- a ValueEdge binds nothing, so that it is crossed alike under all bindings and counts
pub record CrossedValue (s c : List ℕ) (r : Option Crossing) : Type 0 where
  pub leads : (count : ℕ) (β : Bindings) (b : Binding) → b.component.content ≡ component_of c → leads_to count β b (edge_of Value s) ≡ reached r β
  pub binds_none : new_tag r ≡ None
