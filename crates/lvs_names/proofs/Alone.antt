-- A component that is cut out of its name. Assumes nothing.
use Prim.Native.Nat.{ℕ, ◌+◌, ◌-◌, ◌≤◌}
use mathlib.Core.Path.{◌≡◌, refl, sym, ap, ◌∙◌}
use mathlib.Core.Bool.{true}
use mathlib.Core.List.{List, [], ◌∷◌, ◌++◌, append-nil}
use native.Mathlib.Omega.{arith}
use borrow.Author.Tests.{eqb-true, eq-eqb}
use lib.Dec.{eqb}
use lib.ListN.{length, take, drop, length-drop}
use lib.Seq.{take-append_seam, length-take-le}
use Rattle.tlv.specs.Bytes.{Bytes}
use Rattle.tlv.specs.Element.{Element, First, end, malformed, first, element, element_bytes}
use Rattle.tlv.specs.declared.Place.{Place}
use Rattle.tlv.proofs.Bytes.{bytes_drop}
use Rattle.tlv.proofs.Cuts.{Step, Whole, element_whole}
use Rattle.tlv.proofs.RoundTrip.{element_back, element_bytes_lem, element_fits, step_size}
use Rattle.lvs_spec.specs.Model.{component_from, component_of}
use Rattle.lvs_spec.proofs.Grammar.{both}
use Rattle.lvs_spec.proofs.Lists.{clash}
use Rattle.lvs_names.specs.Alone.{alone_from, is_alone, Alone}

-- the test of a component's type, and what the laws say
pub alone_of : (b : List ℕ) (header : ℕ) → is_alone b header ≡ true → Alone b header
unfolding is_alone alone_from component_of component_from
alone_of b header h = go (element b) refl h
  where
    go : (f : First) → element b ≡ f → alone_from f header ≡ true → Alone b header
    go end p q = clash (cc)
    go malformed p q = clash (cc)
    go (first k e rest) p q =
        let t = both (eqb k header) (eqb (length rest) 0) q in
        let none : rest ≡ [] = nil rest (eqb-true (length rest) 0 t.1) in
        record { is = rw p (λ i. first (eqb-true k header t.0 i) e (none i)) }
      where
        nil : (l : List ℕ) → length l ≡ 0 → l ≡ []
        nil [] p = refl
        nil (x ∷ l) p = absurd (omega arith)

pub alone_test : {b : List ℕ} {header : ℕ} → Alone b header → is_alone b header ≡ true
unfolding is_alone alone_from
alone_test {b} {header} one = rw (one.is, eq-eqb header header refl)

-- the element at a place, cut out
module _ {s : List ℕ} {at t start stop : ℕ} {n : Place} (bytes : Bytes s) (f : Step s at t start stop n) where
  abbrev here : Element
  here = record { type = t; inside = take (stop - start) (drop start s) }

  bytes_at : Bytes (drop at s)
  bytes_at = bytes_drop at s bytes

  pub cut_is : take (stop - at) (drop at s) ≡ element_bytes here
  cut_is = take_of (drop at s) (element_bytes here) (drop stop s) (stop - at) (element_bytes_lem (drop at s) bytes_at f.first_is) (step_size bytes f)
    where
      take_of : (b x r : List ℕ) (k : ℕ) → x ++ r ≡ b → length x ≡ k → take k b ≡ x
      take_of b x r k p q = rw (← p, ← q) (take-append_seam x r)

  -- its header is as long as it was
  pub cut_element : element (take (stop - at) (drop at s)) ≡ first (start - at) here []
  cut_element =
      let b = take (stop - at) (drop at s) in
      let k = element_back here [] (element_fits (drop at s) bytes_at f.first_is) in
      let e : element b ≡ first k.0 here [] = ap element (cut_is ∙ sym (append-nil (element_bytes here))) ∙ k.1 in
      e ∙ ap (λ (h : ℕ). first h here []) (same_header k.0 (element_whole b k.0 here [] e))
    where
      part_length : (a z : ℕ) (s : List ℕ) → a ≤ z → z ≤ length s → length (take (z - a) (drop a s)) ≡ z - a
      part_length a z s o w = length-take-le (z - a) (drop a s) (omega (arith, length-drop a s))

      same_header : (h : ℕ) → Whole (take (stop - at) (drop at s)) h here [] → h ≡ start - at
      same_header h w =
          let b = take (stop - at) (drop at s) in
          let size : length b ≡ stop - at = ap length cut_is ∙ step_size bytes f in
          let inside : w.size ≡ stop - start = sym w.inside_length ∙ part_length start stop s f.order f.within in
          let ends : length b - (h + w.size) ≡ 0 = sym (length-drop (h + w.size) b) ∙ ap length (sym w.rest_is) in
          omega (arith, size, inside, ends, w.within, f.before, f.order)

  pub cut_content : component_of (take (stop - at) (drop at s)) ≡ component_of (drop at s)
  unfolding component_of component_from
  cut_content = rw (f.first_is, cut_element)

  pub cut_alone : Alone (take (stop - at) (drop at s)) (start - at)
  unfolding component_of component_from
  cut_alone = record { is = cut_element ∙ rw cut_element }
