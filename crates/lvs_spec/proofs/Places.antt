-- Laws of the first fault's place. There is one exactly where the bytes are not well formed, and it lies within them. Assumes nothing.
use mathlib.Core.Path.{◌≡◌, refl, sym, ap, ◌∙◌}
use mathlib.Core.Bool.{Bool, true, false, cond, ◌&&◌, false≢true}
use mathlib.Core.List.{List}
use mathlib.Core.Option.{Option, none, some}
use Prim.Native.Nat.{ℕ, zero, suc, ◌+◌, ◌-◌, ◌≤◌, ◌<◌}
use native.Mathlib.Nat.{le_refl, not-suc-le-zero}
use native.Mathlib.Omega.{arith}
use lib.Dec.{eqb}
use lib.ListN.{length, length-drop}
use Rattle.tlv.specs.Element.{Element, First, end, malformed, first, element, Cuts, done, broken, next, cuts}
use Rattle.tlv.specs.Lists.{or_else}
use Rattle.tlv.proofs.Cuts.{element_whole, by_elements, rest_shorter, cuts_end, cuts_malformed, cuts_next}
use Rattle.lvs_spec.specs.Grammar.{Kind, Leaf, Known, Item, Meaning, meaning, order, step, final, leaf, container, optional, critical, known}
use Rattle.lvs_spec.specs.Grammar.{model, version, integer, value, text, functionId}
use Rattle.lvs_spec.specs.Leaves.{is_component, one_component, leaf_in}
use Rattle.lvs_spec.specs.WellFormed.{inside_ok, in_order, well_formed_by, well_formed, depth}
use Rattle.lvs_spec.specs.Places.{must, from, Placed, ends, breaks, item, placed_from, placed_by, placed}
use Rattle.lvs_spec.specs.Places.{value_fault, leaf_fault, inside_fault, fault_from, fault_by, fault_place}
use Rattle.lvs_spec.proofs.Grammar.{optional_next, critical_next, known_next, goes_on}

-- ---- elements with their places

-- without the places
abbrev pub unplaced : Placed → Cuts
unplaced (ends at) = done
unplaced (breaks at) = broken
unplaced (item at start e r) = next e (unplaced r)

from_same : (b : List ℕ) (at : ℕ) (f g : ℕ → List ℕ → Placed) → ((p : ℕ) (r : List ℕ) → length r < length b → f p r ≡ g p r) → (m : First)
    → element b ≡ m → placed_from at m f ≡ placed_from at m g
from_same b at f g same end p = refl
from_same b at f g same malformed p = refl
from_same b at f g same (first h e rest) p =
    ap (λ (c : Placed). item at (at + h) e c) (same (at + h + length e.inside) rest (rest_shorter b h e rest p))

placed_enough : (k l at : ℕ) (b : List ℕ) → length b < k → length b < l → placed_by k at b ≡ placed_by l at b
unfolding placed_by
placed_enough zero l at b h g = absurd (not-suc-le-zero h)
placed_enough (suc k) zero at b h g = absurd (not-suc-le-zero g)
placed_enough (suc k) (suc l) at b h g =
    from_same b at (λ p r. placed_by k p r) (λ p r. placed_by l p r) (λ p r lt. placed_enough k l p r (omega arith) (omega arith)) (element b) refl

pub placed_end : (at : ℕ) (b : List ℕ) → element b ≡ end → placed at b ≡ ends at
unfolding placed placed_by
placed_end at b p = rw p

pub placed_malformed : (at : ℕ) (b : List ℕ) → element b ≡ malformed → placed at b ≡ breaks at
unfolding placed placed_by
placed_malformed at b p = rw p

pub placed_next : (at : ℕ) (b : List ℕ) (h : ℕ) (e : Element) (r : List ℕ) → element b ≡ first h e r
    → placed at b ≡ item at (at + h) e (placed (at + h + length e.inside) r)
unfolding placed placed_by
placed_next at b h e r p =
    rw p (ap (λ (c : Placed). item at (at + h) e c)
    (placed_enough (length b) (suc (length r)) (at + h + length e.inside) r (rest_shorter b h e r p) (le_refl (suc (length r)))))

pub unplaced_placed : (b : List ℕ) (at : ℕ) → unplaced (placed at b) ≡ cuts b
unplaced_placed =
    by_elements (λ b. (at : ℕ) → unplaced (placed at b) ≡ cuts b)
    (λ b p at. rw (placed_end at b p, cuts_end b p))
    (λ b p at. rw (placed_malformed at b p, cuts_malformed b p))
    (λ b h e r p rec at. rw (placed_next at b h e r p, cuts_next b h e r p, rec (at + h + length e.inside)))

-- ---- one element of a container

module _ (inner : Kind → List ℕ → Option ℕ) (k : Kind) where
  pub fault_optional : (items : List Item) (at start : ℕ) (e : Element) (r : Placed) → meaning e.type ≡ optional
      → fault_from inner k items (item at start e r) ≡ fault_from inner k items r
  unfolding fault_from
  fault_optional items at start e r q = rw (q, fault_from)

  pub fault_critical : (items : List Item) (at start : ℕ) (e : Element) (r : Placed) → meaning e.type ≡ critical
      → fault_from inner k items (item at start e r) ≡ some at
  unfolding fault_from
  fault_critical items at start e r q = rw (q, fault_from)

  -- what a known element comes to, where these items are left after it, or none where it may not stand
  unfoldable pub fault_known : Known → (at start : ℕ) → Element → Placed → Option (List Item) → Option ℕ
  fault_known w at start e r none = some at
  fault_known w at start e r (some left) = or_else (inside_fault inner k w at start e.inside) (fault_from inner k left r)

  pub fault_known_lem : (items : List Item) (at start : ℕ) (e : Element) (r : Placed) (w : Known) → meaning e.type ≡ known w
      → fault_from inner k items (item at start e r) ≡ fault_known w at start e r (step items e.type)
  unfolding fault_from fault_known
  fault_known_lem items at start e r w q = rw (q, fault_from) (go (step items e.type))
    where
      go : (o : Option (List Item))
          → (elim o as (λ x. Option ℕ) [
            | none ↦ some at
            | some left ↦ or_else (inside_fault inner k w at start e.inside) (fault_from inner k left r)
          ]) ≡ fault_known w at start e r o
      go none = refl
      go (some left) = refl

-- ---- there is a fault exactly where the bytes are not well formed

-- that there is none
abbrev pub is_none : Option ℕ → Bool
is_none none = true
is_none (some p) = false

must_none : (t : Bool) (p : ℕ) → is_none (must t p) ≡ t
must_none true p = refl
must_none false p = refl

pub or_none : (a b : Option ℕ) → is_none (or_else a b) ≡ (is_none a && is_none b)
or_none none b = refl
or_none (some p) b = refl

from_none : (at : ℕ) (o : Option ℕ) → is_none (from at o) ≡ is_none o
from_none at none = refl
from_none at (some p) = refl

value_none : (f : First) → is_none (value_fault f) ≡ one_component f
unfolding value_fault one_component
value_none end = refl
value_none malformed = refl
value_none (first h e rest) = go (is_component e)
  where
    go : (t : Bool) → is_none (cond t (must (eqb (length rest) 0) (h + length e.inside)) (some 0)) ≡ (t && eqb (length rest) 0)
    go true = must_none (eqb (length rest) 0) (h + length e.inside)
    go false = refl

leaf_none : (k : Kind) (l : Leaf) (at start : ℕ) (b : List ℕ) → is_none (leaf_fault k l at start b) ≡ leaf_in k l b
unfolding leaf_fault leaf_in
leaf_none k version at start b = must_none (leaf_in k version b) at
leaf_none k integer at start b = must_none (leaf_in k integer b) at
leaf_none k value at start b = from_none start (value_fault (element b)) ∙ value_none (element b)
leaf_none k text at start b = must_none (leaf_in k text b) at
leaf_none k functionId at start b = must_none (leaf_in k functionId b) at

module _ (inner : Kind → List ℕ → Option ℕ) (formed : Kind → List ℕ → Bool) (agrees : (j : Kind) (b : List ℕ) → is_none (inner j b) ≡ formed j b)
    (k : Kind) where
  pub inside_none : (w : Known) (at start : ℕ) (b : List ℕ) → is_none (inside_fault inner k w at start b) ≡ inside_ok formed k w b
  unfolding inside_fault inside_ok
  inside_none (leaf l) at start b = leaf_none k l at start b
  inside_none (container j) at start b = from_none start (inner j b) ∙ agrees j b

  from_formed : (r : Placed) (items : List Item) → is_none (fault_from inner k items r) ≡ in_order formed k items (unplaced r)
  unfolding fault_from in_order fault_known goes_on
  from_formed (ends at) items = must_none (final items) at
  from_formed (breaks at) items = refl
  from_formed (item at start e r) items = go (meaning e.type) refl (from_formed r)
    where
      taken : (w : Known) (o : Option (List Item)) → ((its : List Item) → is_none (fault_from inner k its r) ≡ in_order formed k its (unplaced r))
          → is_none (fault_known inner k w at start e r o) ≡ goes_on formed k w e (unplaced r) o
      taken w none rec = refl
      taken w (some left) rec =
          rw (or_none (inside_fault inner k w at start e.inside) (fault_from inner k left r), inside_none w at start e.inside, rec left)

      go : (m : Meaning) → meaning e.type ≡ m → ((its : List Item) → is_none (fault_from inner k its r) ≡ in_order formed k its (unplaced r))
          → is_none (fault_from inner k items (item at start e r)) ≡ in_order formed k items (next e (unplaced r))
      go optional q rec = rw (fault_optional inner k items at start e r q, optional_next formed k items e (unplaced r) q) (rec items)
      go critical q rec = rw (fault_critical inner k items at start e r q, critical_next formed k items e (unplaced r) q)
      go (known w) q rec =
          rw (fault_known_lem inner k items at start e r w q, known_next formed k items e (unplaced r) w q) (taken w (step items e.type) rec)

pub by_formed : (n : ℕ) (k : Kind) (b : List ℕ) → is_none (fault_by n k b) ≡ well_formed_by n k b
unfolding fault_by well_formed_by
by_formed zero k b = refl
by_formed (suc n) k b = from_formed (fault_by n) (well_formed_by n) (by_formed n) k (placed 0 b) (order k) ∙ rw (unplaced_placed b 0)

place_formed : (b : List ℕ) → is_none (fault_place b) ≡ well_formed b
unfolding fault_place well_formed
place_formed b = by_formed depth model b

pub none_is : (o : Option ℕ) → is_none o ≡ true → o ≡ none
none_is none h = refl
none_is (some p) h = absurd (false≢true h)

-- THE LAW: no place exactly where the bytes are well formed, a place exactly where they are not
pub formed_none : (b : List ℕ) → well_formed b ≡ true → fault_place b ≡ none
formed_none b h = none_is (fault_place b) (place_formed b ∙ h)

pub none_formed : (b : List ℕ) → fault_place b ≡ none → well_formed b ≡ true
none_formed b h = sym (place_formed b) ∙ ap is_none h

pub malformed_some : (b : List ℕ) → well_formed b ≡ false → (p : ℕ) × (fault_place b ≡ some p)
malformed_some b h = go (fault_place b) refl
  where
    go : (o : Option ℕ) → fault_place b ≡ o → (p : ℕ) × (fault_place b ≡ some p)
    go none e = absurd (false≢true (sym h ∙ none_formed b e))
    go (some p) e = (p, e)

pub some_malformed : (b : List ℕ) (p : ℕ) → fault_place b ≡ some p → well_formed b ≡ false
some_malformed b p h = sym (place_formed b) ∙ ap is_none h

-- ---- the place is at most the length

abbrev AtMost : ℕ → Option ℕ → Type 0
AtMost high none = Unit {0}
AtMost high (some p) = p ≤ high

at_most_more : (low high : ℕ) (o : Option ℕ) → low ≤ high → AtMost low o → AtMost high o
at_most_more low high none h i = tt
at_most_more low high (some p) h i = omega arith

from_most : (start high : ℕ) (o : Option ℕ) → AtMost high o → AtMost (start + high) (from start o)
from_most start high none i = tt
from_most start high (some p) i = omega arith

must_most : (t : Bool) (high p : ℕ) → p ≤ high → AtMost high (must t p)
must_most true high p h = tt
must_most false high p h = h

or_most : (high : ℕ) (a b : Option ℕ) → AtMost high a → AtMost high b → AtMost high (or_else a b)
or_most high none b p q = q
or_most high (some x) b p q = p

value_most : (b : List ℕ) → AtMost (length b) (value_fault (element b))
unfolding value_fault
value_most b = go (element b) refl
  where
    go : (f : First) → element b ≡ f → AtMost (length b) (value_fault f)
    go end p = omega arith
    go malformed p = omega arith
    go (first h e rest) p = test (is_component e)
      where
        test : (t : Bool) → AtMost (length b) (cond t (must (eqb (length rest) 0) (h + length e.inside)) (some 0))
        test true =
            let w = element_whole b h e rest p in
            must_most (eqb (length rest) 0) (length b) (h + length e.inside) (omega (arith, w.inside_length, w.within))
        test false = omega arith

leaf_most : (k : Kind) (l : Leaf) (at start : ℕ) (b : List ℕ) → at ≤ start → AtMost (start + length b) (leaf_fault k l at start b)
unfolding leaf_fault
leaf_most k version at start b h = must_most (leaf_in k version b) (start + length b) at (omega arith)
leaf_most k integer at start b h = must_most (leaf_in k integer b) (start + length b) at (omega arith)
leaf_most k value at start b h = from_most start (length b) (value_fault (element b)) (value_most b)
leaf_most k text at start b h = must_most (leaf_in k text b) (start + length b) at (omega arith)
leaf_most k functionId at start b h = must_most (leaf_in k functionId b) (start + length b) at (omega arith)

module _ (inner : Kind → List ℕ → Option ℕ) (most : (j : Kind) (b : List ℕ) → AtMost (length b) (inner j b)) (k : Kind) where
  inside_most : (w : Known) (at start : ℕ) (b : List ℕ) → at ≤ start → AtMost (start + length b) (inside_fault inner k w at start b)
  unfolding inside_fault
  inside_most (leaf l) at start b h = leaf_most k l at start b h
  inside_most (container j) at start b h = from_most start (length b) (inner j b) (most j b)

  abbrev RestMost : List ℕ → Type 0
  RestMost b = (items : List Item) (at : ℕ) → AtMost (at + length b) (fault_from inner k items (placed at b))

  next_most : (b : List ℕ) (h : ℕ) (e : Element) (r : List ℕ) → element b ≡ first h e r → RestMost r → RestMost b
  unfolding fault_known
  next_most b h e r p rec items at = rw (placed_next at b h e r p) (go (meaning e.type) refl)
    where
      after : ℕ
      after = at + h + length e.inside

      size : after + length r ≡ at + length b
      size =
          let w = element_whole b h e r p in
          let d : length r ≡ length b - (h + w.size) = ap length w.rest_is ∙ length-drop (h + w.size) b in
          omega (arith, w.inside_length, w.within)

      onward : (its : List Item) → AtMost (at + length b) (fault_from inner k its (placed after r))
      onward its = at_most_more (after + length r) (at + length b) (fault_from inner k its (placed after r)) (omega (arith, size)) (rec its after)

      taken : (w : Known) (o : Option (List Item)) → AtMost (at + length b) (fault_known inner k w at (at + h) e (placed after r) o)
      taken w none = omega arith
      taken w (some left) =
          let i = inside_fault inner k w at (at + h) e.inside in
          or_most (at + length b) i (fault_from inner k left (placed after r))
          (at_most_more after (at + length b) i (omega (arith, size)) (inside_most w at (at + h) e.inside (omega arith)))
          (onward left)

      go : (m : Meaning) → meaning e.type ≡ m → AtMost (at + length b) (fault_from inner k items (item at (at + h) e (placed after r)))
      go optional q = rw (fault_optional inner k items at (at + h) e (placed after r) q) (onward items)
      go critical q = rw (fault_critical inner k items at (at + h) e (placed after r) q) (omega arith)
      go (known w) q = rw (fault_known_lem inner k items at (at + h) e (placed after r) w q) (taken w (step items e.type))

  rest_most : (b : List ℕ) → RestMost b
  unfolding fault_from
  rest_most =
      by_elements RestMost
      (λ b p items at. rw (placed_end at b p) (must_most (final items) (at + length b) at (omega arith)))
      (λ b p items at. rw (placed_malformed at b p) (omega arith))
      next_most

by_most : (n : ℕ) (k : Kind) (b : List ℕ) → AtMost (length b) (fault_by n k b)
unfolding fault_by
by_most zero k b = omega arith
by_most (suc n) k b = let e : 0 + length b ≡ length b = omega arith in rw e at (rest_most (fault_by n) (by_most n) k b (order k) 0)

pub by_within : (n : ℕ) (k : Kind) (b : List ℕ) {p : ℕ} → fault_by n k b ≡ some p → p ≤ length b
by_within n k b h = rw h at (by_most n k b)

pub place_within : (b : List ℕ) {p : ℕ} → fault_place b ≡ some p → p ≤ length b
unfolding fault_place
place_within b h = by_within depth model b h
