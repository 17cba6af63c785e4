-- The Parent of a destination, looked up in the list of all Parents, is the one that rule 11 asks for; and whether there is one, for rule 13.
-- Assumes nothing.
use mathlib.Core.Path.{◌≡◌, refl, sym, ◌∙◌}
use mathlib.Core.Bool.{Bool, true, false, cond, not}
use mathlib.Core.List.{List, map}
use mathlib.Core.Option.{Option, none, some, some-injective}
use Prim.Native.Nat.{ℕ, ◌≤◌, ◌<◌, min}
use borrow.Author.Tests.{le-leb, lt-leb, eq-eqb, ne_eqb, leb-true, leb-false}
use native.Mathlib.Omega.{arith}
use Rattle.lvs_spec.specs.Limits.{max_nodes}
use lib.Dec.{leb, eqb}
use lib.ListN.{length, get_or, get_elem?, length-map}
use Rattle.std.specs.Prelude.{Option as Answer, None, is_some as answers}
use Rattle.tlv.specs.Lists.{bind, is, is_some}
use Rattle.lvs_spec.specs.Model.{Model, Node, no_node}
use Rattle.lvs_spec.specs.Verdict.{names_none, not_parent, start_has_parent}
use Rattle.lvs_spec.proofs.Lists.{get_elem_map, get_elem_get_d, get_elem_lt}
use Rattle.lvs_rules.specs.Lowest.{no_rule, broken, is_index, parent_from, parent_index, root_rule, destination_rule}

-- the Parent of a Node
parent_of : (ns : List Node) (i : ℕ) {n : Node} → get_elem? ns i ≡ some n → get_or (map parent_index ns) i None ≡ parent_index n
parent_of ns i {n} h =
    let there = get_elem_map parent_index ns i h in
    sym (some-injective _ _ (sym there ∙ get_elem_get_d (map parent_index ns) i None (get_elem_lt (map parent_index ns) i there)))

module _ {i : ℕ} (small : i < max_nodes) where
  same_parent : (o : Option ℕ) → is_index i (parent_from o) ≡ is (eqb i) o
  same_parent none = refl
  same_parent (some p) = go (leb p 4294967295) refl
    where
      go : (t : Bool) → leb p 4294967295 ≡ t → eqb i (min p 4294967295) ≡ eqb i p
      go true q = let e : min p 4294967295 ≡ p = omega (arith, leb-true p 4294967295 q) in rw e
      go false q =
          let h : 4294967295 < p = leb-false p 4294967295 q in
          ne_eqb i (min p 4294967295) (λ e. omega arith) ∙ sym (ne_eqb i p (λ e. omega arith))

  parent_at : (ns : List Node) (d : ℕ) → d < length ns
      → is_index i (get_or (map parent_index ns) d None) ≡ is (eqb i) (bind (get_elem? ns d) (λ n. n.parent))
  unfolding parent_index
  parent_at ns d h =
      let there = get_elem_get_d ns d no_node h in
      rw (parent_of ns d there, there) (same_parent (get_or ns d no_node).parent)

-- ---- what the code finds at a destination

module _ (parents : List (Answer ℕ)) (i d : ℕ) where
  pub names_none_lem : length parents ≤ d → 8 ≡ destination_rule parents i d
  unfolding destination_rule
  names_none_lem h = rw (le-leb _ _ h)

  pub its_parent : d < length parents → broken 11 (not (is_index i (get_or parents d None))) ≡ destination_rule parents i d
  unfolding destination_rule
  its_parent h = rw (lt-leb _ _ h)

-- ---- the start's Parent

module _ (parents : List (Answer ℕ)) (i start : ℕ) where
  pub other_node : (i ≡ start → ⊥) → no_rule ≡ root_rule parents i start
  unfolding root_rule broken
  other_node no' = rw (ne_eqb i start no')

  pub start_node : i ≡ start → broken 13 (answers (get_or parents i None)) ≡ root_rule parents i start
  unfolding root_rule
  start_node at = rw (eq-eqb i start at)

-- ---- in a Model

parent_tells : (o : Option ℕ) → answers (parent_from o) ≡ is_some o
parent_tells none = refl
parent_tells (some p) = refl

pub root_is : (m : Model) (i : ℕ) (n : Node) → get_elem? m.nodes i ≡ some n
    → root_rule (map parent_index m.nodes) i m.start ≡ broken 13 (start_has_parent m i n)
unfolding root_rule start_has_parent parent_index
root_is m i n h = rw (parent_of m.nodes i h, parent_tells n.parent)

pub destination_is : (m : Model) {i : ℕ} → i < max_nodes → (d : ℕ)
    → destination_rule (map parent_index m.nodes) i d ≡ cond (names_none m d) 8 (broken 11 (not_parent m i d))
unfolding destination_rule names_none not_parent
destination_is m {i} small d = rw (length-map m.nodes parent_index) (go (leb (length m.nodes) d) refl)
  where
    go : (t : Bool) → leb (length m.nodes) d ≡ t
        → cond t 8 (broken 11 (not (is_index i (get_or (map parent_index m.nodes) d None)))) ≡ cond t 8 (broken 11 (not_parent m i d))
    go true q = refl
    go false q = rw (parent_at small m.nodes d (leb-false _ _ q))
