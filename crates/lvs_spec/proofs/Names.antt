-- What a good name is. Assumes nothing.
use Prim.Native.Nat.{ℕ, ◌+◌, ◌≤◌}
use mathlib.Core.Path.{◌≡◌, refl, sym, ap, ◌∙◌, subst}
use mathlib.Core.Bool.{Bool, true, false, cond, ◌&&◌}
use mathlib.Core.Logic.{◌⊎◌, inl, inr}
use mathlib.Core.List.Memᴰ
use mathlib.Core.List.{List, [], ◌∷◌, ◌++◌, append_assoc, Memᴰ}
use mathlib.Core.Option.{Option, none, some, none-ne-some, some-injective}
use native.Mathlib.Omega.{arith}
use borrow.Author.Tests.{le-ltb, ltb-false, eqb-true}
use lib.Dec.{ltb, eqb}
use lib.ListN.{length, length-append, length-drop, take, drop, take-append-drop}
use lib.Seq.{take_at, drop_at, take_all, length-take-le}
use Rattle.tlv.specs.Bytes.{Bytes}
use Rattle.tlv.specs.Element.{Element, First, end, malformed, first, element, Cuts, done, broken, next, cuts, element_bytes, encode, nexts}
use Rattle.tlv.specs.Lists.{guard}
use Rattle.tlv.proofs.Bytes.{bytes_drop}
use Rattle.tlv.proofs.Cuts.{element_whole}
use Rattle.tlv.proofs.RoundTrip.{split_nexts, encode_split}
use Rattle.lvs_spec.specs.Limits.{max_name_bytes, max_components}
use Rattle.lvs_spec.specs.Types as type
use Rattle.lvs_spec.specs.Names.{Component, bad_name, good_name, components_at, name_from, name_of, row_reading, name_reading}
use Rattle.lvs_spec.specs.Leaves.{is_component}
use Rattle.lvs_spec.specs.Demands.{StandsIn}
use Rattle.lvs_spec.proofs.Lists.{clash, bind_from, guard_from}
use Rattle.lvs_spec.proofs.Grammar.{both}

module _ (base : ℕ) (b : List ℕ) where
  -- a name that is not too long is read by its components
  pub short_reading : length b ≤ max_name_bytes → name_reading base b ≡ row_reading base (name_of b)
  unfolding name_reading
  short_reading short = rw (le-ltb max_name_bytes (length b) short)

  module _ {cs : List Component} (good : name_reading base b ≡ good_name cs) where
    pub good_short : length b ≤ max_name_bytes
    unfolding name_reading
    good_short = go (ltb max_name_bytes (length b)) refl
      where
        go : (t : Bool) → ltb max_name_bytes (length b) ≡ t → length b ≤ max_name_bytes
        go true p = let h : bad_name base ≡ good_name cs = rw p at good in clash (cc)
        go false p = ltb-false max_name_bytes (length b) p

    pub good_components : name_of b ≡ some cs
    unfolding row_reading
    good_components = go (name_of b) (sym (short_reading good_short) ∙ good)
      where
        few : (ds : List Component) (t : Bool) → cond t (bad_name (base + 2)) (good_name ds) ≡ good_name cs → some ds ≡ some cs
        few ds true h = clash (cc)
        few ds false h = cc

        go : (o : Option (List Component)) → row_reading base o ≡ good_name cs → o ≡ some cs
        go none h = clash (cc)
        go (some ds) h = few ds (ltb max_components (length ds)) h

    -- it has few components
    pub good_few : length cs ≤ max_components
    unfolding row_reading
    good_few = go (ltb max_components (length cs)) refl (rw good_components at (sym (short_reading good_short) ∙ good))
      where
        go : (t : Bool) → ltb max_components (length cs) ≡ t → cond (ltb max_components (length cs)) (bad_name (base + 2)) (good_name cs) ≡ good_name cs
            → length cs ≤ max_components
        go true p h = let h' : bad_name (base + 2) ≡ good_name cs = rw p at h in clash (cc)
        go false p h = ltb-false max_components (length cs) p

    -- it is one element
    pub good_element : (h : ℕ) × (e : Element) × (element b ≡ first h e [])
    unfolding name_of name_from
    good_element = go (element b) refl good_components
      where
        none_left : (rest : List ℕ) → length rest ≡ 0 → rest ≡ []
        none_left [] p = refl
        none_left (x ∷ rest) p = absurd (omega arith)

        go : (f : First) → element b ≡ f → name_from f ≡ some cs → (h : ℕ) × (e : Element) × (element b ≡ first h e [])
        go end p q = clash (cc)
        go malformed p q = clash (cc)
        go (first h e rest) p q =
            let (n, g, _) = bind_from (guard (eqb e.type type.Name && eqb (length rest) 0) e) (λ n. components_at h (cuts n.inside)) q in
            let t = both (eqb e.type type.Name) (eqb (length rest) 0) (guard_from _ e g).0 in
            (h, e, p ∙ ap (first h e) (none_left rest (eqb-true (length rest) 0 t.1)))

-- ---- where the components of a name stand

-- behind what stands in front of a row
row_stands : (es : List Element) (front : List ℕ) {at : ℕ} {cs : List Component} {c : Component} → length front ≡ at
    → components_at at (nexts es done) ≡ some cs → Memᴰ c cs → StandsIn (front ++ encode es) c
unfolding components_at encode
row_stands [] front {cs = cs} {c = c} l h i = absurd (Memᴰ.not-nil (subst (Memᴰ c) (sym (some-injective _ cs h)) i))
row_stands (e ∷ es) front {at} {cs} {c} l h i =
    let (ds, a, k) = bind_from (components_at (at + length (element_bytes e)) (nexts es done)) _ h in
    let (t, same) = guard_from (is_component e) _ k in
    let longer = length-append front (element_bytes e) ∙ ap (λ n. n + length (element_bytes e)) l in
    go (Memᴰ.cases_cons (subst (Memᴰ c) (sym same) i)) (row_stands es (front ++ element_bytes e) longer a)
  where
    go : {ds : List Component} → (c ≡ record { start = at; size = length (element_bytes e); content = e }) ⊎ Memᴰ c ds
        → (Memᴰ c ds → StandsIn ((front ++ element_bytes e) ++ encode es) c) → StandsIn (front ++ (element_bytes e ++ encode es)) c
    go (inl q) rest = record {
      bytes_are = rw q (
          ap (take (length (element_bytes e))) (drop_at front (element_bytes e ++ encode es) at l) ∙
          take_at (element_bytes e) (encode es) (length (element_bytes e)) refl
          );
    }
    go (inr m) rest = subst (λ b. StandsIn b c) (append_assoc front (element_bytes e) (encode es)) (rest m)

-- a row of components is cut whole
row_whole : (c : Cuts) (at : ℕ) {cs : List Component} → components_at at c ≡ some cs → (es : List Element) × (c ≡ nexts es done)
unfolding components_at
row_whole done at h = ([], refl)
row_whole broken at {cs} h = absurd (none-ne-some cs h)
row_whole (next e c) at h =
    let (ds, a, _) = bind_from (components_at (at + length (element_bytes e)) c) _ h in
    let (es, p) = row_whole c (at + length (element_bytes e)) a in
    (e ∷ es, ap (next e) p)

-- behind the header of a name
pub component_stands : (base : ℕ) (b : List ℕ) → Bytes b → {cs : List Component} → name_reading base b ≡ good_name cs → {c : Component} → Memᴰ c cs
    → StandsIn b c
unfolding name_of name_from
component_stands base b by {cs} good {c} i =
    let (h, e, first_is) = good_element base b good in
    let (n, g, row_is) = bind_from (guard (eqb e.type type.Name && eqb 0 0) e) _ (rw first_is at (good_components base b good)) in
    let same : e ≡ n = (guard_from (eqb e.type type.Name && eqb 0 0) e g).1 in
    let w = element_whole b h e [] first_is in
    let front : length (take h b) ≡ h = length-take-le h b (omega (arith, w.within)) in
    let none_left : length b ≤ h + w.size = omega (arith, length-drop (h + w.size) b, ap length w.rest_is) in
    let inside : e.inside ≡ drop h b = w.inside_is ∙ take_all w.size (drop h b) (omega (arith, length-drop h b, none_left)) in
    let (es, cut) = row_whole (cuts e.inside) h (rw (← same) at row_is) in
    let whole : encode es ≡ e.inside = encode_split e.inside (rw inside (bytes_drop h b by)) es (split_nexts e.inside es cut) in
    let all : take h b ++ encode es ≡ b = ap (λ x. take h b ++ x) (whole ∙ inside) ∙ take-append-drop h b in
    subst (λ x. StandsIn x c) all (row_stands es (take h b) front (rw cut at (rw (← same) at row_is)) i)
