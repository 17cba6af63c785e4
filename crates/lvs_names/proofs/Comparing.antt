-- Two components compared: by their headers, and by the last byte in which their values differ. Assumes nothing.
use Prim.Native.Nat.{ℕ, zero, suc, ◌+◌, ◌-◌, ◌≤◌, ◌<◌}
use mathlib.Core.Path.{◌≡◌, refl, sym, ap, ◌∙◌}
use mathlib.Core.Bool.{Bool, true, false, false≢true, ◌&&◌}
use mathlib.Core.List.{List, [], ◌∷◌, ◌++◌, append_assoc, append-nil}
use native.Mathlib.Omega.{arith}
use borrow.Author.Tests.{eq-eqb, ne_eqb, leb-true}
use lib.Dec.{eqb, leb}
use lib.ListN.{length, take, drop, get_or, length-append, length-drop, take-append-drop}
use lib.Seq.{take_at, take-take, take_all, length-take-le, split_at, drop-drop, get_or-drop, get_or-take}
use Rattle.tlv.specs.Bytes.{Bytes, same_bytes}
use Rattle.tlv.specs.Number.{number_bytes}
use Rattle.tlv.specs.Element.{Element, First, end, malformed, first, element, type_in_range, element_bytes}
use Rattle.tlv.proofs.Bytes.{same_refl, same_true}
use Rattle.tlv.proofs.Numbers.{number_size}
use Rattle.tlv.proofs.Cuts.{Whole, element_whole}
use Rattle.tlv.proofs.RoundTrip.{element_back, element_bytes_lem, element_fits}
use Rattle.lvs_spec.proofs.Grammar.{both, and_false}
use Rattle.lvs_spec.proofs.Looked.{same_itself, not_same, looked_other, looked_equal, looked_unequal}
use Rattle.lvs_spec.specs.Model.{component_from, component_of}
use Rattle.lvs_spec.specs.Names.{same}
use Rattle.lvs_names.specs.Alone.{Alone}
use Rattle.lvs_names.specs.Comparing.{ComparedOf, Headed, LastDifference}

-- ---- what stands behind a header of h bytes, around byte `left - 1`

module _ (l : List ℕ) (h left : ℕ) (more : h < left) where
  pub behind_header : get_or (drop h l) (left - 1 - h) 0 ≡ get_or l (left - 1) 0
  behind_header = let e : h + (left - 1 - h) ≡ left - 1 = omega (arith, more) in get_or-drop h l (left - 1 - h) 0 ∙ rw e

  module _ (high : left ≤ length l) where
    pub front_size : length (take (left - 1 - h) (drop h l)) ≡ left - 1 - h
    front_size = length-take-le (left - 1 - h) (drop h l) (omega (arith, length-drop h l, high))

    pub cut_around : drop h l ≡ take (left - 1 - h) (drop h l) ++ get_or l (left - 1) 0 ∷ drop left l
    cut_around =
        let e : h + suc (left - 1 - h) ≡ left = omega (arith, more) in
        split_at (drop h l) (left - 1 - h) 0 (omega (arith, length-drop h l, high, more)) ∙ rw (behind_header, drop-drop (suc (left - 1 - h)) h l, e)

-- ---- the header's bytes

two_first : (s : List ℕ) (h : ℕ) → 2 ≤ h → h ≤ length s → take h s ≡ get_or s 0 0 ∷ get_or s 1 0 ∷ take (h - 2) (drop 2 s)
two_first [] h l u = absurd (omega arith)
two_first (x ∷ []) h l u = absurd (omega arith)
two_first (x ∷ y ∷ s) zero l u = absurd (omega arith)
two_first (x ∷ y ∷ s) (suc zero) l u = absurd (omega arith)
two_first (x ∷ y ∷ s) (suc (suc h)) l u = let e : suc (suc h) - 2 ≡ h = omega arith in rw e

module _ {s c : List ℕ} {header : ℕ} (H : Headed s c header) where
  by_two : same_bytes (take header s) (take header c)
      ≡ (eqb (get_or s 0 0) (get_or c 0 0) && (eqb (get_or s 1 0) (get_or c 1 0) && same_bytes (take (header - 2) (drop 2 s)) (take (header - 2) (drop 2 c))))
  unfolding same_bytes
  by_two = rw (two_first s header H.some (omega (arith, H.within, H.long)), two_first c header H.some H.within)

  pub second_differs : (get_or s 1 0 ≡ get_or c 1 0 → ⊥) → false ≡ same_bytes (take header s) (take header c)
  second_differs n = sym (by_two ∙ rw (ne_eqb _ _ n) (and_false (eqb (get_or s 0 0) (get_or c 0 0))))

  pub first_differs : (get_or s 0 0 ≡ get_or c 0 0 → ⊥) → false ≡ same_bytes (take header s) (take header c)
  first_differs n = sym (by_two ∙ rw (ne_eqb _ _ n))

  pub two_agree : get_or s 0 0 ≡ get_or c 0 0 → get_or s 1 0 ≡ get_or c 1 0 → {t : Bool}
      → t ≡ same_bytes (take (header - 2) (drop 2 s)) (take (header - 2) (drop 2 c))
      → t ≡ same_bytes (take header s) (take header c)
  two_agree p q r = r ∙ sym (by_two ∙ rw (eq-eqb _ _ p, eq-eqb _ _ q))

-- ---- what a header says

-- type and length, of an element with an inside of n bytes
head_of : ℕ → ℕ → List ℕ
head_of t n = number_bytes t ++ number_bytes n

head_inside : (e : Element) → element_bytes e ≡ head_of e.type (length e.inside) ++ e.inside
unfolding element_bytes head_of
head_inside e = sym (append_assoc (number_bytes e.type) (number_bytes (length e.inside)) e.inside)

module _ (s c : List ℕ) (bytes : Bytes s) (bytes-c : Bytes c) {header : ℕ} (one : Alone c header) where
  abbrev e : Element
  e = component_of c

  abbrev head : List ℕ
  head = head_of e.type (length e.inside)

  whole : Whole c header e []
  whole = element_whole c header e [] one.is

  c_is : c ≡ head ++ e.inside
  c_is = sym (element_bytes_lem c bytes-c one.is) ∙ append-nil (element_bytes e) ∙ head_inside e

  -- c is its header and its value, and no more
  c_long : header + length e.inside ≡ length c
  c_long =
      let ends : length c - (header + whole.size) ≡ 0 = sym (length-drop (header + whole.size) c) ∙ ap length (sym whole.rest_is) in
      omega (arith, ends, whole.within, whole.inside_length)

  head_long : length head ≡ header
  head_long = omega (arith, c_long, ap length c_is, length-append head e.inside)

  head_is : take header c ≡ head
  head_is = ap (take header) c_is ∙ take_at head e.inside header head_long

  pub headed : length c ≤ length s → Headed s c header
  headed l =
      record {
        some = omega (
          arith,
          whole.head,
          (number_size c e.type whole.type_size whole.typed_is).0,
          (number_size (drop whole.type_size c) whole.size whole.length-size whole.sized_is).0,
        );
        within = omega (arith, c_long);
        long = l;
      }

  typed : 0 ≡ e.type → ⊥
  unfolding type_in_range
  typed z = let ok = both (leb 1 e.type) (leb e.type 4294967295) whole.ok in omega (arith, leb-true 1 e.type ok.0)

  -- a component of this type and length begins with this header, and is as long
  alike : (component_of s).type ≡ e.type → length (component_of s).inside ≡ length e.inside → (length c ≤ length s) × (take header s ≡ take header c)
  unfolding component_of component_from
  alike t l = go (element s) refl t l
    where
      go : (f : First) → element s ≡ f → (component_from f).type ≡ e.type → length (component_from f).inside ≡ length e.inside
          → (length c ≤ length s) × (take header s ≡ take header c)
      go end p t l = absurd (typed t)
      go malformed p t l = absurd (typed t)
      go (first k d r) p t l =
          let d-is : element_bytes d ≡ head ++ d.inside = head_inside d ∙ (λ i. head_of (t i) (l i) ++ d.inside) in
          let s-is : s ≡ head ++ (d.inside ++ r) = sym (element_bytes_lem s bytes p) ∙ ap (λ (x : List ℕ). x ++ r) d-is ∙ append_assoc head d.inside r in
          let size : length s ≡ header + (length d.inside + length r) =
          ap length s-is ∙ length-append head (d.inside ++ r) ∙ rw (head_long, length-append d.inside r) in
          (omega (arith, size, c_long), ap (take header) s-is ∙ take_at head (d.inside ++ r) header head_long ∙ sym head_is)

  -- where s does not begin so, type or length differs
  compared_other : (length c ≤ length s → take header s ≡ take header c → ⊥)
      → ComparedOf (component_of s) e (record { equal = false; looked = 0 })
  compared_other n =
      let differ : (component_of s).type ≡ e.type → length (component_of s).inside ≡ length e.inside → ⊥ =
      λ t l. let a = alike t l in n a.0 a.1 in
      record {
        equal = sym (not_same (component_of s) e (λ p. differ (ap (λ (x : Element). x.type) p) (ap (λ (x : Element). length x.inside) p)));
        looked = sym (looked_other (component_of s) e differ);
      }

  pub compared_shorter : length s < length c → ComparedOf (component_of s) e (record { equal = false; looked = 0 })
  compared_shorter h = compared_other (λ l p. omega arith)

  -- t says whether s begins with the header of c
  module _ (long : length c ≤ length s) {t : Bool} (h : t ≡ same_bytes (take header s) (take header c)) where
    pub compared_header : t ≡ false → ComparedOf (component_of s) e (record { equal = false; looked = 0 })
    compared_header other =
        compared_other (λ l p. false≢true (sym other ∙ h ∙ ap (λ (x : List ℕ). same_bytes x (take header c)) p ∙ same_refl (take header c)))

    module _ (yes : t ≡ true) where
      abbrev front : List ℕ
      front = take (length c) s

      front_long : length front ≡ length c
      front_long = length-take-le (length c) s long

      -- the component that s begins with
      abbrev d : Element
      d = record { type = e.type; inside = drop header front }

      d_long : length d.inside ≡ length e.inside
      d_long = omega (arith, length-drop header front, front_long, c_long)

      found : component_of s ≡ d
      unfolding component_of component_from
      found =
          let fits = element_fits c bytes-c one.is in
          let low : header ≤ length c = omega (arith, c_long) in
          let head-front : take header front ≡ head = take-take header (length c) s low ∙ same_true _ _ (sym h ∙ yes) ∙ head_is in
          let d-is : element_bytes d ≡ front =
          head_inside d ∙ rw d_long (ap (λ (x : List ℕ). x ++ drop header front) (sym head-front) ∙ take-append-drop header front) in
          let s-is : element_bytes d ++ drop (length c) s ≡ s = ap (λ (x : List ℕ). x ++ drop (length c) s) d-is ∙ take-append-drop (length c) s in
          let k = element_back d (drop (length c) s) (record { type_ok = fits.type_ok; length_ok = rw d_long fits.length_ok }) in
          ap component_from (ap element (sym s-is) ∙ k.1)

      inside_is : e.inside ≡ drop header c
      inside_is = whole.inside_is ∙ take_all whole.size (drop header c) (omega (arith, length-drop header c, c_long, whole.inside_length))

      of_d : {r : _} → ComparedOf d e r → ComparedOf (component_of s) e r
      of_d {r} x = rw found x

      -- no byte behind the header differs
      pub compared_equal : {left : ℕ} → LastDifference s c header left → left ≡ header
          → ComparedOf (component_of s) e (record { equal = true; looked = length c - header })
      compared_equal {left} last z =
          let same_inside : d.inside ≡ e.inside = rw z at last.behind.alike ∙ sym inside_is in
          let p : d ≡ e = λ i. record { type = e.type; inside = same_inside i } in
          let eq : same d e ≡ true = ap (λ (x : Element). same x e) p ∙ same_itself e in
          of_d (record { equal = sym eq; looked = sym (looked_equal d e eq ∙ d_long ∙ omega (arith, c_long)) })

      -- the byte before `left` differs
      module _ {left : ℕ} (last : LastDifference s c header left) (some : left ≡ header → ⊥) where
        more : header < left
        more = omega (arith, last.behind.low)

        -- what stands between the header and that byte
        abbrev between : List ℕ → List ℕ
        between l = take (left - 1 - header) (drop header l)

        byte_is : get_or front (left - 1) 0 ≡ get_or s (left - 1) 0
        byte_is = get_or-take (length c) s (left - 1) 0 (omega (arith, last.behind.high, more))

        d_cut : d.inside ≡ between front ++ get_or s (left - 1) 0 ∷ drop left c
        d_cut = cut_around front header left more (omega (arith, last.behind.high, front_long)) ∙ rw (byte_is, last.behind.alike)

        e_cut : e.inside ≡ between c ++ get_or c (left - 1) 0 ∷ drop left c
        e_cut = inside_is ∙ cut_around c header left more last.behind.high

        equal_bytes : d ≡ e → get_or s (left - 1) 0 ≡ get_or c (left - 1) 0
        equal_bytes p =
            let there : get_or (drop header front) (left - 1 - header) 0 ≡ get_or (drop header c) (left - 1 - header) 0 =
            ap (λ (x : Element). get_or x.inside (left - 1 - header) 0) p ∙ ap (λ (l : List ℕ). get_or l (left - 1 - header) 0) inside_is in
            sym (behind_header front header left more ∙ byte_is) ∙ there ∙ behind_header c header left more

        pub compared_unequal : ComparedOf (component_of s) e (record { equal = false; looked = length c - left + 1 })
        compared_unequal =
            let high = last.behind.high in
            let long-d = front_size front header left more (omega (arith, high, front_long)) in
            let long-e = front_size c header left more high in
            let unequal = last.unequal more in
            let count = looked_unequal d e (between front) (between c) (drop left c) refl (long-d ∙ sym long-e) d_cut e_cut unequal in
            of_d (record { equal = sym (not_same d e (λ p. unequal (equal_bytes p))); looked = sym (count ∙ rw (length-drop left c)) })
