-- Names at their places, by the tests that the readers make. Assumes nothing.
use Prim.Native.Nat.{ℕ, ◌+◌, ◌-◌, ◌≤◌, ◌<◌}
use mathlib.Core.Path.{◌≡◌, refl, sym, ap, ◌∙◌}
use mathlib.Core.Bool.{Bool, true, false, cond, ◌&&◌}
use mathlib.Core.Logic.{◌⊎◌, inl, inr}
use mathlib.Core.List.{List, [], ◌∷◌, foldl}
use mathlib.Core.Option.{Option, none, some, some-injective}
use native.Mathlib.Omega.{arith}
use borrow.Author.Tests.{eq-eqb, ne_eqb, le-leb, lt-leb, lt-ltb, le-ltb, eqb-true}
use lib.Dec.{eqb}
use lib.ListN.{length, take, drop, length-drop}
use lib.Seq.{length-take-le, take_all}
use Rattle.std.specs.Prelude.{Option as Answer, Some, None}
use Rattle.tlv.specs.Bytes.{Bytes}
use Rattle.tlv.specs.Element.{Element, First, end, malformed, first, element, Cuts, done, broken, next, cuts, pieces, element_bytes}
use Rattle.tlv.specs.declared.Place.{Place}
use Rattle.tlv.specs.Answers.{read_at}
use Rattle.tlv.specs.declared.Read.{Read}
use Rattle.tlv.specs.declared.Read.TheVariants.{Found, End, Malformed}
use Rattle.tlv.proofs.Cuts.{Step, element_whole, first_seen, cuts_end, cuts_malformed}
use Rattle.tlv.proofs.RoundTrip.{step_size}
use Rattle.tlv.proofs.Gathered.{GatheredFrom, folded, took, settled, ended}
use Rattle.tlv.specs.Lists.{bind, guard}
use Rattle.lvs_spec.specs.Limits.{max_component_type, max_components, max_name_bytes}
use Rattle.lvs_spec.specs.Types as type
use Rattle.lvs_spec.specs.Leaves.{is_component}
use Rattle.lvs_spec.specs.Model.{component_from, component_of}
use Rattle.lvs_spec.specs.Names.{Component, components_at, name_from, name_of, bad_name, good_name, row_reading, name_reading}
use Rattle.lvs_spec.proofs.Lists.{clash}
use Rattle.lvs_spec.proofs.Names.{short_reading, good_components}
use Rattle.lvs_names.specs.Rows.{row_at, row_from}
use Rattle.lvs_names.specs.Answers.{read_row, header_from, header_of, counted_from, count_of}
use Rattle.lvs_names.specs.Contents.{ContentOf, RowStep}
use Rattle.lvs_names.specs.declared.Row.{Row}
use Rattle.lvs_names.specs.declared.Content.{Content}
use Rattle.lvs_names.proofs.Alone.{cut_alone, cut_content}

-- ---- no element stands at a place

pub record Nothing (b : List ℕ) : Type 0 where
  pub is : (element b ≡ end) ⊎ (element b ≡ malformed)

pub nothing : (s : List ℕ) (at : ℕ) {r : Read} → r ≡ read_at s at → ((t start stop : ℕ) (n : Place) → r ≡ Found t start stop n → ⊥) → Nothing (drop at s)
nothing s at {r} e other = go r refl
  where
    go : (a : Read) → r ≡ a → Nothing (drop at s)
    go (Found t start stop n) f = absurd (other t start stop n f)
    go End f = record { is = inl (first_seen s at e f) }
    go Malformed f = record { is = inr (first_seen s at e f) }

-- ---- the header

pub header_none : {b : List ℕ} → Nothing (drop 0 b) → header_of b ≡ None
unfolding header_of header_from
header_none {b} n = elim n.is [ inl p ↦ rw p | inr p ↦ rw p ]

module _ {b : List ℕ} {typ start stop : ℕ} {p : Place} (f : Step b 0 typ start stop p) where
  header_is : header_of b ≡ cond (eqb typ type.Name && eqb (length (drop stop b)) 0) (Some (start - 0)) None
  unfolding header_of header_from
  header_is = rw f.first_is

  pub header_type : (typ ≡ type.Name → ⊥) → header_of b ≡ None
  header_type n = header_is ∙ rw (ne_eqb typ type.Name n)

  pub header_more : typ ≡ type.Name → (stop ≡ length b → ⊥) → header_of b ≡ None
  header_more e n = header_is ∙ rw (eq-eqb typ type.Name e, ne_eqb (length (drop stop b)) 0 (λ z. n (omega (arith, length-drop stop b, f.within))))

  pub header_found : typ ≡ type.Name → stop ≡ length b → header_of b ≡ Some start
  header_found e n =
      let z : length (drop stop b) ≡ 0 = omega (arith, length-drop stop b) in
      header_is ∙ rw (eq-eqb typ type.Name e, eq-eqb (length (drop stop b)) 0 z) (ap Some (omega arith))

-- ---- counting

abbrev pub marks : List ℕ → List (Option Element)
marks b = pieces (cuts b)

-- a count, and one of them more
unfoldable pub counts : Answer ℕ → Option Element → Answer ℕ
counts None o = None
counts (Some n) none = None
counts (Some n) (some e) = cond (is_component e) (Some (n + 1)) None

no_count : (xs : List (Option Element)) → foldl counts None xs ≡ None
unfolding counts
no_count [] = refl
no_count (x ∷ xs) = no_count xs

counted_marks : (n at : ℕ) (c : Cuts) → foldl counts (Some n) (pieces c) ≡ counted_from n (components_at at c)
unfolding pieces counts counted_from components_at
counted_marks n at done = ap Some (omega arith)
counted_marks n at broken = refl
counted_marks n at (next e rest) =
    go (is_component e) (components_at (at + length (element_bytes e)) rest) (λ m. counted_marks m (at + length (element_bytes e)) rest)
  where
    go : (t : Bool) (o : Option (List Component)) → ((m : ℕ) → foldl counts (Some m) (pieces rest) ≡ counted_from m o)
        → foldl counts (cond t (Some (n + 1)) None) (pieces rest)
        ≡ counted_from n (bind o λ cs. guard t (record { start = at; size = length (element_bytes e); content = e } ∷ cs))
    go true none ih = ih (n + 1)
    go true (some cs) ih = ih (n + 1) ∙ ap Some (omega arith)
    go false none ih = no_count (pieces rest)
    go false (some cs) ih = no_count (pieces rest)

module _ {name : List ℕ} {from at n : ℕ} (inv : GatheredFrom (folded counts (Some 0)) marks name from at (Some n)) where
  answer : {r : Answer ℕ} → r ≡ foldl counts (Some 0) (marks (drop from name)) → r ≡ count_of name from
  unfolding count_of
  answer e = e ∙ counted_marks 0 from (cuts (drop from name))

  module _ {typ start stop : ℕ} {p : Place} (st : Step name at typ start stop p) where
    mark_found : marks (drop at name) ≡ some (record { type = typ; inside = take (stop - start) (drop start name) }) ∷ marks (drop p.at name)
    unfolding pieces
    mark_found = rw st.cut_is

    pub count_large : max_component_type < typ → None ≡ count_of name from
    unfolding is_component counts
    count_large h = answer (settled inv mark_found (rw (lt-leb typ max_component_type h)) (λ y. refl))

    pub count_one : typ ≤ max_component_type → GatheredFrom (folded counts (Some 0)) marks name from p.at (Some (n + 1))
    unfolding is_component counts
    count_one h = took inv mark_found (rw (le-leb typ max_component_type h))

  pub count_none : cuts (drop at name) ≡ done → Some n ≡ count_of name from
  unfolding pieces
  count_none e = answer (ended inv (rw e))

  pub count_broken : cuts (drop at name) ≡ broken → None ≡ count_of name from
  unfolding pieces counts
  count_broken e = answer (settled inv {x = none} {rest = []} (rw e) refl (λ y. refl))

-- ---- a component that a slice begins with

pub content_none : {b : List ℕ} → Nothing (drop 0 b) → ContentOf b (record { typ = 0; start = 0; end = 0 })
unfolding component_of component_from
content_none {b} n = record { order = omega arith; within = omega arith; is = elim n.is [ inl p ↦ rw p | inr p ↦ rw p ] }

pub content_found : {b : List ℕ} {typ start stop : ℕ} {p : Place} → Step b 0 typ start stop p
    → ContentOf b (record { typ = typ; start = start; end = stop })
unfolding component_of component_from
content_found f = record { order = f.order; within = f.within; is = rw f.first_is }

module _ {a b : List ℕ} {x y : Content} (X : ContentOf a x) (Y : ContentOf b y) where
  pub type_is : eqb (component_of a).type (component_of b).type ≡ eqb x.typ y.typ
  type_is = rw (X.is, Y.is)

pub size_is : {a : List ℕ} {x : Content} → ContentOf a x → length (component_of a).inside ≡ x.end - x.start
size_is {a} {x} X = rw X.is (length-take-le (x.end - x.start) (drop x.start a) (simp length-drop (omega (arith, X.within))))

-- ---- the row of components

pub row_none : (name : List ℕ) (at : ℕ) → Nothing (drop at name) → row_from name at ≡ []
unfolding row_from row_at
row_none name at n = elim n.is [ inl p ↦ rw (cuts_end (drop at name) p) | inr p ↦ rw (cuts_malformed (drop at name) p) ]

pub row_next : (name : List ℕ) {at t start stop : ℕ} {n : Place} → Bytes name → Step name at t start stop n
    → RowStep name at (take (stop - at) (drop at name)) (start - at)
unfolding row_from row_at component_of component_from
row_next name {at} {t} {start} {stop} bytes f =
    let b = take (stop - at) (drop at name) in
    let cut : length b ≡ stop - at = length-take-le (stop - at) (drop at name) (omega (arith, length-drop at name, f.within)) in
    let size = step_size bytes f in
    let e : at + (stop - at) ≡ stop = omega (arith, f.before, f.order) in
    record {
      some = omega (arith, cut, f.before, f.order);
      within = omega (arith, cut, e, f.within);
      bytes = rw cut;
      alone = cut_alone bytes f;
      content = cut_content bytes f;
      is = rw (cut, e, f.first_is, f.cut_is, f.moved, size, e);
    }

-- ---- the whole name

-- components that pass the tests are the row that the walk goes along
row_same : (at : ℕ) (c : Cuts) (cs : List Component) → components_at at c ≡ some cs → row_at at c ≡ cs
unfolding components_at row_at
row_same at done cs h = cc
row_same at broken cs h = let z : ◌≡◌ {A = ℕ} 0 1 = cc in absurd (omega arith)
row_same at (next e rest) cs h =
    go (components_at (at + length (element_bytes e)) rest) (is_component e) refl h (row_same (at + length (element_bytes e)) rest)
  where
    go : (o : Option (List Component)) (t : Bool) → components_at (at + length (element_bytes e)) rest ≡ o
        → (bind o λ ds. guard t (record { start = at; size = length (element_bytes e); content = e } ∷ ds)) ≡ some cs
        → ((ds : List Component) → components_at (at + length (element_bytes e)) rest ≡ some ds → row_at (at + length (element_bytes e)) rest ≡ ds)
        → row_at at (next e rest) ≡ cs
    go none t p q rec = let z : ◌≡◌ {A = ℕ} 0 1 = cc in absurd (omega arith)
    go (some ds) false p q rec = let z : ◌≡◌ {A = ℕ} 0 1 = cc in absurd (omega arith)
    go (some ds) true p q rec = rw (rec ds p) (some-injective _ _ q)

module _ (b : List ℕ) where
  -- what a header says of the name
  no_header : header_of b ≡ None → name_of b ≡ none
  unfolding header_of header_from name_of name_from
  no_header h = go (element b) refl h
    where
      go : (f : First) → element b ≡ f → header_from f ≡ None → name_from f ≡ none
      go end p q = refl
      go malformed p q = refl
      go (first k e rest) p q = by (eqb e.type type.Name && eqb (length rest) 0) q
        where
          by : (t : Bool) → cond t (Some k) None ≡ None → (bind (guard t e) λ n. components_at k (cuts n.inside)) ≡ none
          by true q = clash (cc)
          by false q = refl

  header_name : {h : ℕ} → header_of b ≡ Some h → name_of b ≡ components_at h (cuts (drop h b))
  unfolding header_of header_from name_of name_from
  header_name {h} q = go (element b) refl q
    where
      go : (f : First) → element b ≡ f → header_from f ≡ Some h → name_from f ≡ components_at h (cuts (drop h b))
      go end p q = clash (cc)
      go malformed p q = clash (cc)
      go (first k e rest) p q = by (eqb e.type type.Name) (eqb (length rest) 0) refl q
        where
          by : (t u : Bool) → eqb (length rest) 0 ≡ u → cond (t && u) (Some k) None ≡ Some h
              → (bind (guard (t && u) e) λ n. components_at k (cuts n.inside)) ≡ components_at h (cuts (drop h b))
          by true true r q =
              let w = element_whole b k e rest p in
              let z = eqb-true (length rest) 0 r in
              let l : length (drop k b) ≤ w.size = omega (arith, length-drop k b, length-drop (k + w.size) b, ap length w.rest_is) in
              let same : k ≡ h = cc in
              ap (λ (s : List ℕ). components_at k (cuts s)) (w.inside_is ∙ take_all w.size (drop k b) l) ∙
              ap (λ (j : ℕ). components_at j (cuts (drop j b))) same
          by true false r q = clash (cc)
          by false u r q = clash (cc)

  -- what was read of it
  some_row : {row : Row} → read_row b ≡ Some row → (header_of b ≡ Some row.start) × (count_of b row.start ≡ Some row.count)
  unfolding read_row
  some_row {row} e = at_header (header_of b) refl
    where
      at_count : {h : ℕ} → header_of b ≡ Some h → (o : Answer ℕ) → count_of b h ≡ o
          → (header_of b ≡ Some row.start) × (count_of b row.start ≡ Some row.count)
      at_count p None q = let f : read_row b ≡ None = rw (p, q) refl in clash (cc)
      at_count {h} p (Some n) q =
          let f : read_row b ≡ Some (record { start = h; count = n }) = rw (p, q) refl in
          let g : record { start = h; count = n } ≡ row = cc in
          (p ∙ ap (λ (r : Row). Some r.start) g, rw (← ap (λ (r : Row). r.start) g) (q ∙ ap (λ (r : Row). Some r.count) g))

      at_header : (o : Answer ℕ) → header_of b ≡ o → (header_of b ≡ Some row.start) × (count_of b row.start ≡ Some row.count)
      at_header None p = let f : read_row b ≡ None = rw p refl in clash (cc)
      at_header (Some h) p = at_count p (count_of b h) refl

  module _ (base : ℕ) where
    pub too_long_lem : max_name_bytes < length b → name_reading base b ≡ bad_name base
    unfolding name_reading
    too_long_lem h = rw (lt-ltb max_name_bytes (length b) h, name_reading)

    module _ (short : length b ≤ max_name_bytes) where
      named : {o : Option (List Component)} → name_of b ≡ o → name_reading base b ≡ row_reading base o
      named p = short_reading base b short ∙ ap (row_reading base) p

      headless : header_of b ≡ None → name_reading base b ≡ bad_name (base + 1)
      unfolding row_reading
      headless h = named (no_header h)

      module _ {start : ℕ} (head : header_of b ≡ Some start) where
        counted_is : (o : Option (List Component)) → components_at start (cuts (drop start b)) ≡ o
            → (count_of b start ≡ counted_from 0 o) × (name_reading base b ≡ row_reading base o)
        unfolding count_of
        counted_is o p = (rw p refl, named (header_name head ∙ p))

        malformed_name : count_of b start ≡ None → name_reading base b ≡ bad_name (base + 1)
        unfolding counted_from row_reading
        malformed_name e = go (components_at start (cuts (drop start b))) refl
          where
            go : (o : Option (List Component)) → components_at start (cuts (drop start b)) ≡ o → name_reading base b ≡ bad_name (base + 1)
            go none p = (counted_is none p).1
            go (some cs) p = let x = (counted_is (some cs) p).0 in clash (cc)

        module _ {n : ℕ} (e : count_of b start ≡ Some n) where
          counted_row : (cs : List Component) → components_at start (cuts (drop start b)) ≡ some cs → (n ≡ length cs) × (row_from b start ≡ cs)
          unfolding counted_from row_from
          counted_row cs p =
              let x = (counted_is (some cs) p).0 in
              let y : n ≡ 0 + length cs = cc in
              (omega (arith, y), row_same start (cuts (drop start b)) cs p)

          many : max_components < n → name_reading base b ≡ bad_name (base + 2)
          unfolding counted_from row_reading
          many h = go (components_at start (cuts (drop start b))) refl
            where
              go : (o : Option (List Component)) → components_at start (cuts (drop start b)) ≡ o → name_reading base b ≡ bad_name (base + 2)
              go none p = let x = (counted_is none p).0 in clash (cc)
              go (some cs) p = (counted_is (some cs) p).1 ∙ rw (lt-ltb max_components (length cs) (omega (arith, (counted_row cs p).0)))

          few : n ≤ max_components → (good_name (row_from b start) ≡ name_reading base b) × (length (row_from b start) ≡ n)
          unfolding counted_from row_reading
          few h = go (components_at start (cuts (drop start b))) refl
            where
              go : (o : Option (List Component)) → components_at start (cuts (drop start b)) ≡ o
                  → (good_name (row_from b start) ≡ name_reading base b) × (length (row_from b start) ≡ n)
              go none p = let x = (counted_is none p).0 in clash (cc)
              go (some cs) p =
                  let e = counted_row cs p in (
                    sym ((counted_is (some cs) p).1 ∙ rw (le-ltb max_components (length cs) (omega (arith, e.0))) (ap good_name (sym e.1))),
                    ap length e.1 ∙ sym e.0,
                  )

      pub no_name : read_row b ≡ None → name_reading base b ≡ bad_name (base + 1)
      unfolding read_row
      no_name e = at_header (header_of b) refl
        where
          at_count : {h : ℕ} → header_of b ≡ Some h → (o : Answer ℕ) → count_of b h ≡ o → name_reading base b ≡ bad_name (base + 1)
          at_count p None q = malformed_name p q
          at_count {h} p (Some n) q = let f : read_row b ≡ Some (record { start = h; count = n }) = rw (p, q) refl in clash (cc)

          at_header : (o : Answer ℕ) → header_of b ≡ o → name_reading base b ≡ bad_name (base + 1)
          at_header None p = headless p
          at_header (Some h) p = at_count p (count_of b h) refl

      module _ {row : Row} (e : read_row b ≡ Some row) where
        pub many_components : max_components < row.count → name_reading base b ≡ bad_name (base + 2)
        many_components h = let s = some_row e in many s.0 s.1 h

        pub good_components_lem : row.count ≤ max_components
            → (good_name (row_from b row.start) ≡ name_reading base b) × (length (row_from b row.start) ≡ row.count)
        good_components_lem h = let s = some_row e in few s.0 s.1 h

  -- a good name's components start behind its header
  pub good_row : (base : ℕ) {cs : List Component} {h : ℕ} {e : Element} → name_reading base b ≡ good_name cs → element b ≡ first h e []
      → good_name (row_from b h) ≡ name_reading base b
  unfolding header_of header_from row_from
  good_row base {cs} {h} {e} good p = go (eqb e.type type.Name && eqb (length {A = ℕ} []) 0) (rw p)
    where
      go : (t : Bool) → header_of b ≡ cond t (Some h) None → good_name (row_from b h) ≡ name_reading base b
      go true q = ap good_name (row_same h (cuts (drop h b)) cs (sym (header_name q) ∙ good_components base b good)) ∙ sym good
      go false q = let n : none ≡ some cs = sym (no_header q) ∙ good_components base b good in clash (cc)
