-- Integers and components, written and read: what was written is read back, whatever its size, and what was read is written no longer.
-- Assumes nothing.
use mathlib.Core.Path.{◌≡◌, refl, sym}
use mathlib.Core.Logic.{◌⊎◌, inl, inr}
use mathlib.Core.Bool.{Bool, true, false, cond, ◌&&◌, ◌||◌, false≢true, and-true}
use mathlib.Core.List.{List, [], ◌∷◌, ◌++◌, append-nil}
use Prim.Native.Nat.{ℕ, zero, suc, ◌%◌, ◌^◌, ◌≤◌, ◌<◌}
use native.Mathlib.Nat.{div-add-mod'}
use native.Mathlib.Omega.{arith}
use borrow.Author.Tests.{lt-ltb, le-ltb, le-leb, lt-leb, leb-true, leb-false, eqb-true}
use lib.Dec.{leb, ltb, eqb, lit≤}
use lib.ListN.{length, take, length-append}
use lib.Seq.{take_at}
use Rattle.tlv.specs.Bytes.{Bytes, big_endian, big_endian_bytes}
use Rattle.tlv.specs.Number.{num, width, least, mark, wide, number, number_bytes, integer_size, integer}
use Rattle.tlv.specs.Element.{Element, First, first, end, malformed, element, typed, type_in_range, element_bytes, InRange}
use Rattle.tlv.specs.Fields.{number_of}
use Rattle.tlv.proofs.Bytes.{big_lt, length-spelled}
use Rattle.tlv.proofs.RoundTrip.{element_back, element_bytes_lem, element_fits}
use Rattle.tlv.proofs.Sizes.{length-element_bytes}
use Rattle.lvs_spec.specs.Leaves.{one_component, is_component}
use Rattle.lvs_spec.specs.Limits.{max_component_type}
use Rattle.lvs_spec.specs.Model.{component_of, component_from}
use Rattle.lvs_spec.proofs.Grammar.{both}
use Rattle.lvs_spec.proofs.Lists.{clash}
use Rattle.lvs_description.specs.Format.{integer_width, integer_bytes, component_type}
use Rattle.lvs_description.proofs.Rows.{Short}

-- ---- integers

-- in one byte or more any number is read back: the first takes what does not fit
spelled_any : (w n : ℕ) → big_endian (big_endian_bytes (suc w) n) ≡ n
unfolding big_endian big_endian_bytes
spelled_any zero n = omega (arith, div-add-mod' n 1)
spelled_any (suc w) n = rw (length-spelled (suc w) (n % 256 ^ suc w), spelled_any w (n % 256 ^ suc w)) (div-add-mod' n (256 ^ suc w))

-- what holds of the four widths holds of a number's
by_width : (P : ℕ → Type 0) → P 1 → P 2 → P 4 → P 8 → (n : ℕ) → P (integer_width n)
unfolding integer_width
by_width P a b c d n = go (ltb n 256) (ltb n 65536) (ltb n 4294967296)
  where
    go : (x y z : Bool) → P (cond x 1 (cond y 2 (cond z 4 8)))
    go true y z = a
    go false true z = b
    go false false true = c
    go false false false = d

-- an integer is written in a size that an integer has
pub integer_formed : (n : ℕ) → integer_size (length (integer_bytes n)) ≡ true
unfolding integer_bytes
integer_formed n = rw (length-spelled (integer_width n) n) (by_width (λ w. integer_size w ≡ true) refl refl refl refl n)

-- and read back
pub integer_back : (n : ℕ) → number_of (integer_bytes n) ≡ n
unfolding integer_bytes number_of integer
integer_back n =
    rw (integer_formed n, number_of, integer)
    (by_width (λ w. big_endian (big_endian_bytes w n) ≡ n) (spelled_any 0 n) (spelled_any 1 n) (spelled_any 3 n) (spelled_any 7 n) n)

cond_le : (c : Bool) {x y : ℕ} (n : ℕ) → x ≤ n → y ≤ n → cond c x y ≤ n
cond_le true n h g = h
cond_le false n h g = g

-- a number that fits one of the widths has no longer one
width_le : (n w : ℕ) → integer_size w ≡ true → n < 256 ^ w → integer_width n ≤ w
unfolding integer_width
width_le n w ok h = go (eqb w 1) (eqb w 2) (eqb w 4) (eqb w 8) refl refl refl refl ok
  where
    at : (c : ℕ) → eqb w c ≡ true → n < 256 ^ c
    at c p = rw (eqb-true w c p) at h

    go : (x y z u : Bool) → eqb w 1 ≡ x → eqb w 2 ≡ y → eqb w 4 ≡ z → eqb w 8 ≡ u → (x || (y || (z || u))) ≡ true → integer_width n ≤ w
    go true y z u p q r s t = rw (eqb-true w 1 p, lt-ltb n 256 (at 1 p)) (lit≤ tt)
    go false true z u p q r s t = rw (eqb-true w 2 q, lt-ltb n 65536 (at 2 q)) (cond_le (ltb n 256) 2 (lit≤ tt) (lit≤ tt))
    go false false true u p q r s t =
        rw (eqb-true w 4 r, lt-ltb n 4294967296 (at 4 r)) (cond_le (ltb n 256) 4 (lit≤ tt) (cond_le (ltb n 65536) 4 (lit≤ tt) (lit≤ tt)))
    go false false false true p q r s t = rw (eqb-true w 8 s) (by_width (λ v. v ≤ 8) (lit≤ tt) (lit≤ tt) (lit≤ tt) (lit≤ tt) n)
    go false false false false p q r s t = absurd (false≢true t)

-- an integer that was read is written no longer
pub integer_shorter : (b : List ℕ) → Bytes b → integer_size (length b) ≡ true → length (integer_bytes (number_of b)) ≤ length b
unfolding integer_bytes number_of integer
integer_shorter b by ok =
    rw (length-spelled (integer_width (number_of b)) (number_of b), ok, number_of, integer) (width_le (big_endian b) (length b) ok (big_lt b by))

-- ---- components

-- a component of a good type is read back
pub component_back : (e : Element) → Short (element_bytes e) → component_type e.type ≡ true → component_of (element_bytes e) ≡ e
unfolding component_of component_from component_type type_in_range
component_back e h ok =
    let b = both (leb 1 e.type) (leb e.type max_component_type) ok in
    let u : e.type ≤ 65535 = leb-true _ _ b.1 in
    let r : InRange e = record { type_ok = rw b.0 (le-leb e.type 4294967295 (omega arith)); length_ok = omega (arith, length-element_bytes e) } in
    rw (rw append-nil at (element_back e [] r).1)

-- a type that no element has is 0, or in its longest form
far : (t : ℕ) → type_in_range t ≡ false → (t ≡ 0) ⊎ (4294967295 < t)
unfolding type_in_range
far t p = go (leb 1 t) (leb t 4294967295) refl refl p
  where
    go : (x y : Bool) → leb 1 t ≡ x → leb t 4294967295 ≡ y → (x && y) ≡ false → (t ≡ 0) ⊎ (4294967295 < t)
    go false y a b c = let u : t < 1 = leb-false _ _ a in inl (omega arith)
    go true true a b c = clash (cc)
    go true false a b c = inr (leb-false _ _ b)

-- and is read as a number nevertheless
far_read : (t : ℕ) (r : List ℕ) → (t ≡ 0) ⊎ (4294967295 < t) → number (number_bytes t ++ r) ≡ num t (length (number_bytes t))
unfolding number_bytes number mark width least wide
far_read t r (inl z) = rw z
far_read t r (inr h) =
    let b = big_endian_bytes 8 t in
    let e : take 8 (b ++ r) ≡ b = take_at b r 8 (length-spelled 8 t) in
    let l : 8 ≤ length (b ++ r) = omega (arith, length-append b r, length-spelled 8 t) in
    rw (le-ltb t 253 (omega arith), le-ltb t 65536 (omega arith), le-ltb t 4294967296 (omega arith), le-leb _ _ l, e, spelled_any 7 t, length-spelled 8 t)
    (rw (le-leb 4294967296 t (omega arith)))

far_type : (t : ℕ) → (t ≡ 0) ⊎ (4294967295 < t) → component_type t ≡ false
unfolding component_type
far_type t (inl z) = rw z
far_type t (inr h) = rw (le-leb 1 t (omega arith)) (lt-leb t 65535 (omega arith))

no_component : (e : Element) → type_in_range e.type ≡ false → element (element_bytes e) ≡ malformed
unfolding element_bytes element typed number number_bytes
no_component e p =
    let t = e.type in
    let r = number_bytes (length e.inside) ++ e.inside in
    from (number_bytes t ++ r) (far_read t r (far t p))
  where
    from : (b : List ℕ) → number b ≡ num e.type (length (number_bytes e.type)) → element b ≡ malformed
    from [] q = clash (cc)
    from (x ∷ xs) q = rw (q, p)

-- a Value is well formed exactly where the component's type is good
pub component_formed : (e : Element) → Short (element_bytes e) → one_component (element (element_bytes e)) ≡ component_type e.type
unfolding one_component is_component component_type type_in_range
component_formed e h = go (type_in_range e.type) refl
  where
    go : (a : Bool) → type_in_range e.type ≡ a → one_component (element (element_bytes e)) ≡ component_type e.type
    go true p =
        let r : InRange e = record { type_ok = p; length_ok = omega (arith, length-element_bytes e) } in
        rw (rw append-nil at (element_back e [] r).1, (both (leb 1 e.type) (leb e.type 4294967295) p).0) (and-true (leb e.type max_component_type))
    go false p = rw (no_component e p) (sym (far_type e.type (far e.type p)))

-- a well-formed Value holds a component of a good type, and is written as it was read
pub record Component (b : List ℕ) : Type 0 where
  pub same : element_bytes (component_of b) ≡ b
  pub formed : component_type (component_of b).type ≡ true

pub component_read : (b : List ℕ) → Bytes b → one_component (element b) ≡ true → Component b
unfolding component_of component_from one_component is_component type_in_range component_type
component_read b by ok = go (element b) refl ok
  where
    nil : (l : List ℕ) → length l ≡ 0 → l ≡ []
    nil [] e = refl
    nil (x ∷ l) e = absurd (omega arith)

    go : (f : First) → element b ≡ f → one_component f ≡ true → Component b
    go end p h = absurd (false≢true h)
    go malformed p h = absurd (false≢true h)
    go (first k e rest) p h =
        let c = both (leb e.type max_component_type) (eqb (length rest) 0) h in
        let nothing : rest ≡ [] = nil rest (eqb-true (length rest) 0 c.1) in
        let r = element_fits b by p in
        record {
          same = rw p (rw (nothing, append-nil) at (element_bytes_lem b by p));
          formed = rw (p, (both (leb 1 e.type) (leb e.type 4294967295) r.type_ok).0, c.0);
        }
