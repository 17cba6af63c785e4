-- What is in an element is no longer than the element, and there are no more edges than bytes. Assumes nothing.
use Prim.Native.Nat.{ℕ, zero, suc, ◌≤◌, ◌<◌}
use mathlib.Core.Path.{◌≡◌, refl}
use mathlib.Core.Bool.{Bool, true, false}
use mathlib.Core.List.{List, [], ◌++◌}
use native.Mathlib.Omega.{arith}
use borrow.Author.Tests.{eqb-true}
use lib.Dec.{eqb}
use lib.ListN.{length, get_or}
use Rattle.tlv.specs.Element.{Element, cuts}
use Rattle.tlv.specs.Lists.{when}
use Rattle.tlv.specs.Fields.{each_cut, inside_of, insides}
use Rattle.tlv.proofs.Cuts.{by_elements, cuts_end, cuts_malformed, cuts_next, rest_shorter, element_whole}
use Rattle.tlv.proofs.Gathered.{each_most}
use Rattle.lvs_spec.specs.Types as type
use Rattle.lvs_edges.specs.Edges.{edge_of, edge_from, file_edges}
use Rattle.lvs_edges.specs.declared.EdgeKind.TheVariants.{Value, Pattern}

-- what is in an element is no longer than what the element is in
pub inside_within : (k : ℕ) (s : List ℕ) (i : ℕ) → length (get_or (insides k s) i []) ≤ length s
unfolding insides inside_of each_cut
inside_within k s =
    by_elements
    (λ b. (i : ℕ) → length (get_or (each_cut (inside_of k) (cuts b)) i []) ≤ length b)
    (λ b p i. rw (cuts_end b p) (omega arith))
    (λ b p i. rw (cuts_malformed b p) (omega arith))
    (λ b h e r p ih i.
    let w = element_whole b h e r p in
    let l : length e.inside ≤ length b = omega (arith, w.inside_length, w.within) in
    rw (cuts_next b h e r p) (go b r e (eqb k e.type) i l (rest_shorter b h e r p) ih))
    s
  where
    go : (b r : List ℕ) (e : Element) (t : Bool) (i : ℕ) → length e.inside ≤ length b → length r < length b
        → ((j : ℕ) → length (get_or (each_cut (inside_of k) (cuts r)) j []) ≤ length r)
        → length (get_or (when t e.inside ++ each_cut (inside_of k) (cuts r)) i []) ≤ length b
    go b r e true zero l m ih = l
    go b r e true (suc i) l m ih = omega (arith, ih i)
    go b r e false i l m ih = omega (arith, ih i)

one_edge : (e : Element) → length (edge_from e) ≤ 1
unfolding edge_from
one_edge e = go (eqb type.ValueEdge e.type) (eqb type.PatternEdge e.type) (λ p q. both p q)
  where
    both : eqb type.ValueEdge e.type ≡ true → eqb type.PatternEdge e.type ≡ true → ⊥
    both p q = omega (arith, eqb-true type.ValueEdge e.type p, eqb-true type.PatternEdge e.type q)

    go : (t u : Bool) → (t ≡ true → u ≡ true → ⊥) → length (when t (edge_of Value e.inside) ++ when u (edge_of Pattern e.inside)) ≤ 1
    go true true n = absurd (n refl refl)
    go true false n = omega arith
    go false true n = omega arith
    go false false n = omega arith

pub file_edges_few : (b : List ℕ) → length (file_edges b) ≤ length b
unfolding file_edges
file_edges_few b = each_most edge_from one_edge b
