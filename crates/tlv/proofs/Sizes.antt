-- How long an encoding is, and which elements have one. Assumes nothing.
use mathlib.Core.Path.{◌≡◌, refl, sym, ap, ◌∙◌}
use mathlib.Core.List.{List, [], ◌∷◌}
use mathlib.Core.Option.{some}
use mathlib.Core.Bool.{Bool, true, false, cond}
use Prim.Native.Nat.{ℕ, suc, ◌+◌, ◌≤◌, ◌<◌, ◌^◌}
use native.Mathlib.Omega.{arith}
use borrow.Author.Tests.{lt-ltb, ltb-true}
use lib.Dec.{ltb, lit≤}
use lib.ListN.{length, length-append}
use Rattle.tlv.specs.Number.{width, mark, number_bytes}
use Rattle.tlv.specs.Element.{Element, type_in_range, split, element_bytes, encode, InRange, Each}
use Rattle.tlv.proofs.Bytes.{length-spelled}
use Rattle.tlv.proofs.Cuts.{element_whole, cuts_end, cuts_malformed, cuts_next, split_end, split_broken, split_next, by_elements, none_some, also_some}

-- ---- a shortest form is no shorter than that of a smaller number

size : Bool → Bool → Bool → ℕ
size a b c = cond a 1 (cond b 3 (cond c 5 9))

size_is : (n : ℕ) → length (number_bytes n) ≡ size (ltb n 253) (ltb n 65536) (ltb n 4294967296)
unfolding number_bytes mark width size
size_is n = go (ltb n 253) (ltb n 65536) (ltb n 4294967296) refl refl refl
  where
    go : (a b c : Bool) → ltb n 253 ≡ a → ltb n 65536 ≡ b → ltb n 4294967296 ≡ c → length (number_bytes n) ≡ size a b c
    go true b c p q r = rw (p, number_bytes)
    go false true c p q r = rw (p, q, number_bytes, mark) (ap suc (length-spelled 2 n))
    go false false true p q r = rw (p, q, r, number_bytes, mark) (ap suc (length-spelled 4 n))
    go false false false p q r = rw (p, q, r, number_bytes, mark) (ap suc (length-spelled 8 n))

pub number_bytes_mono : (m n : ℕ) → m ≤ n → length (number_bytes m) ≤ length (number_bytes n)
unfolding size
number_bytes_mono m n h =
    rw (size_is m, size_is n) (go (ltb m 253) (ltb m 65536) (ltb m 4294967296) (ltb n 253) (ltb n 65536) (ltb n 4294967296) (down 253) (down 65536)
    (down 4294967296))
  where
    down : (c : ℕ) → ltb n c ≡ true → ltb m c ≡ true
    down c t = let g : n < c = ltb-true n c t in lt-ltb m c (omega arith)

    go : (a b c a' b' c' : Bool) → (a' ≡ true → a ≡ true) → (b' ≡ true → b ≡ true) → (c' ≡ true → c ≡ true) → size a b c ≤ size a' b' c'
    go a b c true b' c' p q r = rw (p refl) (lit≤ tt)
    go true b c false true c' p q r = lit≤ tt
    go false b c false true c' p q r = rw (q refl) (lit≤ tt)
    go true b c false false true p q r = lit≤ tt
    go false true c false false true p q r = lit≤ tt
    go false false c false false true p q r = rw (r refl) (lit≤ tt)
    go true b c false false false p q r = lit≤ tt
    go false true c false false false p q r = lit≤ tt
    go false false true false false false p q r = lit≤ tt
    go false false false false false false p q r = lit≤ tt

-- ---- the size of an element

pub length-element_bytes : (e : Element)
    → length (element_bytes e) ≡ length (number_bytes e.type) + (length (number_bytes (length e.inside)) + length e.inside)
unfolding element_bytes
length-element_bytes e = simp length-append

pub length-encode : (e : Element) (es : List Element) → length (encode (e ∷ es)) ≡ length (element_bytes e) + length (encode es)
unfolding encode
length-encode e es = length-append (element_bytes e) (encode es)

-- ---- elements that have an encoding

-- the types of elements that were read are in range
pub split_types : (b : List ℕ) (es : List Element) → split b ≡ some es → Each (λ e. type_in_range e.type ≡ true) es
split_types =
    by_elements (λ b. (es : List Element) → split b ≡ some es → Each (λ e. type_in_range e.type ≡ true) es)
    (λ b p es q. let en : es ≡ [] = cc (split_end b (cuts_end b p)) in rw en tt)
    (λ b p es q. absurd (none_some (sym (split_broken b (cuts_malformed b p)) ∙ q)))
    (λ b h e r p more es q.
    let t = also_some e (split r) es (sym (split_next b r e (cuts_next b h e r p)) ∙ q) in
    rw t.2 ((element_whole b h e r p).ok, more t.0 t.1))

-- and their lengths too, where the whole is short enough
pub all_in_range : (es : List Element) → Each (λ e. type_in_range e.type ≡ true) es → length (encode es) < 2 ^ 64 → Each InRange es
all_in_range [] h l = tt
all_in_range (e ∷ es) h l =
    let n = length-encode e es in
    let m = length-element_bytes e in
    (record { type_ok = h.0; length_ok = omega arith }, all_in_range es h.1 (omega arith))
