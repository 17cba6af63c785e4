-- The edges among elements, and the empty Node. Assumes nothing.
use Prim.Native.Nat.{ℕ}
use mathlib.Core.Path.{◌≡◌, sym, ap, ◌∙◌}
use mathlib.Core.List.{List, [], ◌∷◌, ◌++◌}
use borrow.Author.Tests.{ne_eqb}
use Rattle.tlv.specs.Element.{Element}
use Rattle.tlv.specs.Lists.{each}
use Rattle.tlv.specs.Fields.{each_cut, elements}
use Rattle.tlv.proofs.Cuts.{cuts_end, element_nil}
use Rattle.tlv.proofs.Fields.{each_listed}
use Rattle.lvs_spec.specs.Types as type
use Rattle.lvs_edges.specs.Edges.{edge_of, edge_from, file_edges}
use Rattle.lvs_edges.specs.declared.EdgeKind.TheVariants.{Value, Pattern}

-- ---- one element

module _ {t : ℕ} (b : List ℕ) where
  pub from_value : t ≡ type.ValueEdge → edge_from (record { type = t; inside = b }) ≡ edge_of Value b ∷ []
  unfolding edge_from
  from_value e = rw e

  pub from_pattern : t ≡ type.PatternEdge → edge_from (record { type = t; inside = b }) ≡ edge_of Pattern b ∷ []
  unfolding edge_from
  from_pattern e = rw e

  pub from_other : (t ≡ type.ValueEdge → ⊥) → (t ≡ type.PatternEdge → ⊥) → edge_from (record { type = t; inside = b }) ≡ []
  unfolding edge_from
  from_other v p = rw (ne_eqb type.ValueEdge t (λ e. v (sym e)), ne_eqb type.PatternEdge t (λ e. p (sym e)))

pub no_edges : file_edges [] ≡ []
unfolding file_edges each_cut
no_edges = rw (cuts_end [] element_nil)

-- as an iteration goes over them
pub edges_listed : (b : List ℕ) → file_edges b ≡ each edge_from (elements b)
unfolding file_edges
edges_listed b = each_listed edge_from b

-- ---- one turn of an iteration over a Node's elements

module _ {es rest : List Element} {e : Element} (s : es ≡ e ∷ rest) where
  pub next_value : e.type ≡ type.ValueEdge → each edge_from es ≡ edge_of Value e.inside ∷ each edge_from rest
  next_value t = ap (each edge_from) s ∙ ap (λ l. l ++ each edge_from rest) (from_value e.inside t)

  pub next_pattern : e.type ≡ type.PatternEdge → each edge_from es ≡ edge_of Pattern e.inside ∷ each edge_from rest
  next_pattern t = ap (each edge_from) s ∙ ap (λ l. l ++ each edge_from rest) (from_pattern e.inside t)

  pub next_other : (e.type ≡ type.ValueEdge → ⊥) → (e.type ≡ type.PatternEdge → ⊥) → each edge_from es ≡ each edge_from rest
  next_other v p = ap (each edge_from) s ∙ ap (λ l. l ++ each edge_from rest) (from_other e.inside v p)
