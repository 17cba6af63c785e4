-- In a well-formed Node the ValueEdges stand before the PatternEdges, so that its edges in file order are those of the definition.
-- Assumes nothing.
use Prim.Native.Nat.{ℕ, zero, suc}
use mathlib.Core.Path.{◌≡◌, refl, sym, ap, ◌∙◌, subst}
use mathlib.Core.Logic.{◌⊎◌, inl, inr, ⊎_elim}
use mathlib.Core.Bool.{Bool, true, false, ◌&&◌, ◌||◌, not}
use mathlib.Core.List.{List, [], ◌∷◌, ◌++◌, map}
use mathlib.Core.Option.{none, some}
use native.Mathlib.Omega.{arith}
use borrow.Author.Tests.{eqb-true, eqb-false}
use lib.Dec.{eqb}
use lib.ListN.{get_or, length-map}
use Rattle.tlv.specs.Element.{Element, done, cuts, nexts}
use Rattle.tlv.specs.Lists.{any, each, member}
use Rattle.tlv.specs.Fields.{each_cut, inside_of, insides}
use Rattle.tlv.proofs.Gathered.{inside_taken, inside_passed}
use Rattle.lvs_spec.specs.Types as type
use Rattle.lvs_spec.specs.Grammar.{Kind, Known, Item, once, maybe, many, meaning, order, step, node, model, optional, known, container, known_types, lookup}
use Rattle.lvs_spec.specs.WellFormed.{inside_ok, well_formed_by, well_formed}
use Rattle.lvs_spec.specs.Model.{Edge, edges, no_node, node_of, model_of, value_edge_of, pattern_edge_of}
use Rattle.lvs_spec.specs.Verdict.{Verdict, verdict}
use Rattle.lvs_spec.proofs.Lists.{clash}
use Rattle.lvs_spec.proofs.Reading.{accepted_passed, accepted_judged}
use Rattle.lvs_spec.proofs.Rules.{judge_few}
use Rattle.lvs_spec.proofs.Grammar.{both, each_cut_nexts, Ordered, stop, skip, take, row}
use Rattle.lvs_edges.specs.declared.EdgeKind.TheVariants.{Value, Pattern}
use Rattle.lvs_edges.specs.Edges.{edge_of, edge_from, file_edges}
use Rattle.lvs_edges.specs.Nodes.{node_inside, Walkable}
use Rattle.lvs_edges.proofs.Listed.{from_value, from_pattern, from_other, no_edges}
use Rattle.lvs_edges.proofs.Bodies.{empty_node}

-- ---- items of an order

abbrev types : Item → List ℕ
types (once ts) = ts
types (maybe ts) = ts
types (many ts) = ts

-- the type may still come
abbrev allows : ℕ → List Item → Bool
allows t items = any (λ i. member t (types i)) items

-- where an item of type p stands, none of type v does from there on
abbrev apart : ℕ → ℕ → List Item → Bool
apart v p [] = true
apart v p (i ∷ items) = (not (member p (types i)) || not (allows v (i ∷ items))) && apart v p items

either : (a b : Bool) → (a || b) ≡ false → (a ≡ false) × (b ≡ false)
either true b h = clash (cc)
either false b h = (refl, h)

not_both : (a b : Bool) → (not a || not b) ≡ true → a ≡ true → b ≡ false
not_both true true h e = clash (cc)
not_both true false h e = refl
not_both false b h e = clash (cc)

-- the end of a list
data Suffix : List Item → List Item → Type 0 where
  here : {xs : List Item} → Suffix xs xs
  later : {xs ys : List Item} {y : Item} → Suffix xs ys → Suffix xs (y ∷ ys)

-- an element of type t was taken by the item i, which may take more
record Stepped (items : List Item) (t : ℕ) (left : List Item) : Type 0 where
  item : Item
  rest : List Item
  from : Suffix (item ∷ rest) items
  takes : member t (types item) ≡ true
  left_is : (left ≡ rest) ⊎ (left ≡ item ∷ rest)

later_stepped : {items left : List Item} {t : ℕ} {i : Item} → Stepped items t left → Stepped (i ∷ items) t left
later_stepped s = record { item = s.item; rest = s.rest; from = later s.from; takes = s.takes; left_is = s.left_is }

stepped : (items : List Item) (t : ℕ) {left : List Item} → step items t ≡ some left → Stepped items t left
unfolding step
stepped [] t h = clash (cc)
stepped (once ts ∷ items) t {left} h = go (member t ts) refl
  where
    go : (b : Bool) → member t ts ≡ b → Stepped (once ts ∷ items) t left
    go true q = let e : some items ≡ some left = rw q at h in record { item = once ts; rest = items; from = here; takes = q; left_is = inl (cc) }
    go false q = let e : none ≡ some left = rw q at h in clash (cc)
stepped (maybe ts ∷ items) t {left} h = go (member t ts) refl (stepped items t)
  where
    go : (b : Bool) → member t ts ≡ b → (step items t ≡ some left → Stepped items t left) → Stepped (maybe ts ∷ items) t left
    go true q rec = let e : some items ≡ some left = rw (q, step) at h in record { item = maybe ts; rest = items; from = here; takes = q; left_is = inl (cc) }
    go false q rec = later_stepped (rec (rw (q, step) at h))
stepped (many ts ∷ items) t {left} h = go (member t ts) refl (stepped items t)
  where
    go : (b : Bool) → member t ts ≡ b → (step items t ≡ some left → Stepped items t left) → Stepped (many ts ∷ items) t left
    go true q rec =
        let e : some (many ts ∷ items) ≡ some left = rw (q, step) at h in
        record { item = many ts; rest = items; from = here; takes = q; left_is = inr (cc) }
    go false q rec = later_stepped (rec (rw (q, step) at h))

-- what holds of all that is left from an item on, holds of what is left after it
left_keeps : {items left : List Item} {t : ℕ} (P : List Item → Type 0) → (s : Stepped items t left) → P (s.item ∷ s.rest) → P s.rest → P left
left_keeps P s all rest = ⊎_elim (λ e. subst P (sym e) rest) (λ e. subst P (sym e) all) s.left_is

module _ (v : ℕ) where
  none_in_suffix : {xs ys : List Item} → Suffix xs ys → allows v ys ≡ false → allows v xs ≡ false
  none_in_suffix here a = a
  none_in_suffix (later {ys = ys} {y = y} s) a = none_in_suffix s (either (member v (types y)) (allows v ys) a).1

  -- what may not come any more stays so
  shrinks : {items left : List Item} {t : ℕ} → Stepped items t left → allows v items ≡ false → allows v left ≡ false
  shrinks s a =
      let from = none_in_suffix s.from a in
      left_keeps (λ xs. allows v xs ≡ false) s from (either (member v (types s.item)) (allows v s.rest) from).1

  -- what may not come does not
  no_step : {items left : List Item} → Stepped items v left → allows v items ≡ false → ⊥
  no_step s a =
      let n = (either (member v (types s.item)) (allows v s.rest) (none_in_suffix s.from a)).0 in
      let z : ◌≡◌ {A = Bool} true false = sym s.takes ∙ n in
      clash (cc)

module _ (v p : ℕ) where
  -- what the test says of the first item, and of the rest
  apart_first : (i : Item) (items : List Item) → apart v p (i ∷ items) ≡ true
      → (member p (types i) ≡ true → allows v (i ∷ items) ≡ false) × (apart v p items ≡ true)
  apart_first i items a =
      let b = both (not (member p (types i)) || not (allows v (i ∷ items))) (apart v p items) a in
      (not_both (member p (types i)) (allows v (i ∷ items)) b.0, b.1)

  apart_suffix : {xs ys : List Item} → Suffix xs ys → apart v p ys ≡ true → apart v p xs ≡ true
  apart_suffix here a = a
  apart_suffix (later {ys = ys} {y = y} s) a = apart_suffix s (apart_first y ys a).1

  stays_apart : {items left : List Item} {t : ℕ} → Stepped items t left → apart v p items ≡ true → apart v p left ≡ true
  stays_apart s a =
      let from = apart_suffix s.from a in
      left_keeps (λ xs. apart v p xs ≡ true) s from (apart_first s.item s.rest from).1

  -- after an element of type p there is none of type v
  after_last : {items left : List Item} → Stepped items p left → apart v p items ≡ true → allows v left ≡ false
  after_last s a =
      let i = s.item in
      let no = (apart_first i s.rest (apart_suffix s.from a)).0 s.takes in
      left_keeps (λ xs. allows v xs ≡ false) s no (either (member v (types i)) (allows v s.rest) no).1

-- ---- a row of elements

abbrev values_in : List Element → List (List ℕ)
values_in es = each (inside_of type.ValueEdge) es

abbrev patterns_in : List Element → List (List ℕ)
patterns_in es = each (inside_of type.PatternEdge) es

-- the type of an optional element is none of the two
optional_other : {t k : ℕ} {w : Known} → meaning t ≡ optional → meaning k ≡ known w → t ≡ k → ⊥
optional_other p q e = let z = sym p ∙ ap meaning e ∙ q in clash (cc)

module _ (inner : Kind → List ℕ → Bool) (k : Kind) where
  no_values : {items : List Item} {es : List Element} → Ordered inner k items es → allows type.ValueEdge items ≡ false → values_in es ≡ []
  unfolding meaning lookup known_types
  no_values (stop h) a = refl
  no_values (skip {e = e} q o) a =
      let no : e.type ≡ type.ValueEdge → ⊥ = optional_other q refl in
      rw (inside_passed e.inside no, no_values o a)
  no_values (take {items = items} {left = left} {e = e} w q s i o) a =
      let st = stepped items e.type s in
      let no : e.type ≡ type.ValueEdge → ⊥ = λ z. no_step type.ValueEdge (subst (λ (t : ℕ). Stepped items t left) z st) a in
      rw (inside_passed e.inside no, no_values o (shrinks type.ValueEdge st a))

  -- the edges of a row are its ValueEdges and then its PatternEdges
  row_edges : {items : List Item} {es : List Element} → Ordered inner k items es → apart type.ValueEdge type.PatternEdge items ≡ true
      → each edge_from es ≡ map (edge_of Value) (values_in es) ++ map (edge_of Pattern) (patterns_in es)
  unfolding meaning lookup known_types
  row_edges (stop h) a = refl
  row_edges (skip {e = e} q o) a =
      let v : e.type ≡ type.ValueEdge → ⊥ = optional_other q refl in
      let p : e.type ≡ type.PatternEdge → ⊥ = optional_other q refl in
      rw (from_other e.inside v p, inside_passed e.inside v, inside_passed e.inside p) (row_edges o a)
  row_edges (take {items = items} {left = left} {e = e} {es = es} w q s i o) a =
      go (eqb e.type type.ValueEdge) (eqb e.type type.PatternEdge) refl refl (row_edges o (stays_apart _ _ st a))
    where
      st : Stepped items e.type left
      st = stepped items e.type s

      go : (x y : Bool) → eqb e.type type.ValueEdge ≡ x → eqb e.type type.PatternEdge ≡ y
          → each edge_from es ≡ map (edge_of Value) (values_in es) ++ map (edge_of Pattern) (patterns_in es)
          → each edge_from (e ∷ es) ≡ map (edge_of Value) (values_in (e ∷ es)) ++ map (edge_of Pattern) (patterns_in (e ∷ es))
      go true y x-is y-is rest =
          let t = eqb-true e.type type.ValueEdge x-is in
          let p : e.type ≡ type.PatternEdge → ⊥ = λ z. other (sym t ∙ z) in
          rw (from_value e.inside t, inside_taken e.inside t, inside_passed e.inside p, rest)
        where
          other : type.ValueEdge ≡ type.PatternEdge → ⊥
          other z = omega arith
      go false true x-is y-is rest =
          let t = eqb-true e.type type.PatternEdge y-is in
          let v = eqb-false e.type type.ValueEdge x-is in
          let none_left = no_values o (after_last type.ValueEdge type.PatternEdge (subst (λ (t : ℕ). Stepped items t left) t st) a) in
          rw (from_pattern e.inside t, inside_taken e.inside t, inside_passed e.inside v, rest, none_left)
      go false false x-is y-is rest =
          let p = eqb-false e.type type.PatternEdge y-is in
          let v = eqb-false e.type type.ValueEdge x-is in
          rw (from_other e.inside v p, inside_passed e.inside v, inside_passed e.inside p, rest)

  -- what holds of every well-formed Node, and of no bytes, holds of each Node of a row
  row_nodes : (P : List ℕ → Type 0) → P [] → ((x : List ℕ) → inner node x ≡ true → P x) → {items : List Item} {es : List Element}
      → Ordered inner k items es → (v : ℕ) → P (get_or (each (inside_of type.Node) es) v [])
  unfolding meaning lookup known_types inside_ok
  row_nodes P empty good (stop h) v = empty
  row_nodes P empty good (skip {e = e} q o) v =
      let no : e.type ≡ type.Node → ⊥ = optional_other q refl in
      rw (inside_passed e.inside no) (row_nodes P empty good o v)
  row_nodes P empty good (take {e = e} {es = es} w q s i o) v = go (eqb e.type type.Node) refl v (row_nodes P empty good o)
    where
      go : (x : Bool) → eqb e.type type.Node ≡ x → (v : ℕ) → ((v : ℕ) → P (get_or (each (inside_of type.Node) es) v []))
          → P (get_or (each (inside_of type.Node) (e ∷ es)) v [])
      go false x-is v rest = rw (inside_passed e.inside (eqb-false e.type type.Node x-is)) (rest v)
      go true x-is v rest =
          let t = eqb-true e.type type.Node x-is in
          let w-is : known w ≡ known (container node) = sym q ∙ ap meaning t in
          let is : w ≡ container node = cc in
          rw (inside_taken e.inside t) (at v (good e.inside (rw is at i)))
        where
          at : (v : ℕ) → P e.inside → P (get_or (e.inside ∷ each (inside_of type.Node) es) v [])
          at zero p = p
          at (suc v) p = rest v

-- ---- Nodes

map-map : {A B C : Type 0} (g : B → C) (f : A → B) (xs : List A) → map (λ x. g (f x)) xs ≡ map g (map f xs)
map-map g f [] = refl
map-map g f (x ∷ xs) = ap (λ l. g (f x) ∷ l) (map-map g f xs)

insides_row : (x : List ℕ) (es : List Element) (t : ℕ) → cuts x ≡ nexts es done → insides t x ≡ each (inside_of t) es
unfolding insides
insides_row x es t e = rw e (each_cut_nexts (inside_of t) es)

node_edges : (n : ℕ) (x : List ℕ) → well_formed_by n node x ≡ true → file_edges x ≡ edges (node_of x)
unfolding well_formed_by order file_edges edges node_of edge_of
node_edges zero x h = clash (cc)
node_edges (suc n) x h =
    let R = row (well_formed_by n) node (order node) (cuts x) h in
    let es = R.elements in
    let values : map (edge_of Value) (values_in es) ≡ map Edge.value (map value_edge_of (insides type.ValueEdge x)) =
    map-map Edge.value value_edge_of (values_in es) ∙
    ap (λ l. map Edge.value (map value_edge_of l)) (sym (insides_row x es type.ValueEdge R.cut_is)) in
    let patterns : map (edge_of Pattern) (patterns_in es) ≡ map Edge.pattern (map pattern_edge_of (insides type.PatternEdge x)) =
    map-map Edge.pattern pattern_edge_of (patterns_in es) ∙
    ap (λ l. map Edge.pattern (map pattern_edge_of l)) (sym (insides_row x es type.PatternEdge R.cut_is)) in
    ap (each_cut edge_from) R.cut_is ∙ each_cut_nexts edge_from es ∙ row_edges (well_formed_by n) node R.ordered refl ∙ (λ i. values i ++ patterns i)

empty_edges : file_edges [] ≡ edges (node_of [])
unfolding edges no_node
empty_edges = no_edges ∙ ap edges empty_node

-- THE LAW FOR CALLERS: the edges of each Node of a well-formed model
pub well_ordered : (b : List ℕ) → well_formed b ≡ true → (v : ℕ) → file_edges (node_inside b v) ≡ edges (node_of (node_inside b v))
unfolding well_formed well_formed_by node_inside
well_ordered b h v =
    let R = row (well_formed_by 6) model (order model) (cuts b) h in
    rw (insides_row b R.elements type.Node R.cut_is)
    (row_nodes (well_formed_by 6) model (λ x. file_edges x ≡ edges (node_of x)) empty_edges (node_edges 6) R.ordered v)

-- an accepted model can be walked
pub walkable : (b : List ℕ) {n : ℕ} → verdict b ≡ Verdict.accepted n → Walkable b
unfolding model_of
walkable b h =
    let p = accepted_passed b h in
    record {
      short = p.short;
      few = omega (arith, judge_few (model_of b) (accepted_judged b h), length-map (insides type.Node b) node_of);
      ordered = well_ordered b p.formed;
    }
