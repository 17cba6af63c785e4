-- Sizes, counted up to a cap, and the bytes of an element. Assumes nothing.
use mathlib.Core.Path.{◌≡◌, refl, sym, ap, ◌∙◌}
use mathlib.Core.Bool.{Bool, true, false}
use mathlib.Core.List.{List, [], ◌∷◌, ◌++◌, append_assoc, append-nil}
use Prim.Native.Nat.{ℕ, ◌+◌, ◌≤◌, ◌<◌}
use native.Mathlib.Omega.{arith}
use borrow.Author.Tests.{ltb-true, ltb-false}
use lib.Dec.{ltb}
use lib.ListN.{length, length-append}
use Rattle.tlv.specs.Number.{number_bytes}
use Rattle.tlv.specs.Element.{Element, element_bytes, encode}
use Rattle.lvs_description.specs.Format.{holds}
use Rattle.lvs_write.specs.Steps.{capped, el, element_size, header_bytes}

-- ---- the cap

pub capped_most : (n : ℕ) → capped n ≤ 32769
unfolding capped
capped_most n = omega arith

pub capped_low : (n : ℕ) → capped n ≤ 32768 → capped n ≡ n
unfolding capped
capped_low n h = omega arith

pub capped_is : (n : ℕ) → n ≤ 32768 → capped n ≡ n
unfolding capped
capped_is n h = omega arith

pub capped_add : (k n : ℕ) → capped (capped k + n) ≡ capped (k + n)
unfolding capped
capped_add k n = omega arith

pub capped_capped : (n : ℕ) → capped (capped n) ≡ capped n
unfolding capped
capped_capped n = omega arith

pub capped_nothing : (n : ℕ) → capped (capped n + 0) ≡ capped n
unfolding capped
capped_nothing n = omega arith

small_same : (a b : ℕ) → a < 32769 → capped a ≡ capped b → a ≡ b
unfolding capped
small_same a b h e = omega arith

both_large : (k t a b : ℕ) → 32769 ≤ a → capped a ≡ capped b → capped (k + element_size t a) ≡ capped (k + element_size t b)
unfolding capped element_size
both_large k t a b h e = omega arith

-- an element's size depends on its inside's up to the cap
pub capped_element : (k t a b : ℕ) → capped a ≡ capped b → capped (k + element_size t a) ≡ capped (k + element_size t b)
capped_element k t a b e = go (ltb a 32769) refl
  where
    go : (x : Bool) → ltb a 32769 ≡ x → capped (k + element_size t a) ≡ capped (k + element_size t b)
    go true p = ap (λ (n : ℕ). capped (k + element_size t n)) (small_same a b (ltb-true _ _ p) e)
    go false p = both_large k t a b (ltb-false _ _ p) e

-- ---- the bytes of an element

pub header_then : (t : ℕ) (i : List ℕ) → header_bytes t (length i) ++ i ≡ el t i
unfolding header_bytes element_bytes
header_then t i = append_assoc (number_bytes t) (number_bytes (length i)) i

pub header_length : (t n : ℕ) → length (header_bytes t n) ≡ length (number_bytes t) + length (number_bytes n)
unfolding header_bytes
header_length t n = length-append (number_bytes t) (number_bytes n)

pub element_length : (t : ℕ) (i : List ℕ) → length (el t i) ≡ element_size t (length i)
unfolding element_bytes element_size
element_length t i =
    length-append (number_bytes t) (number_bytes (length i) ++ i) ∙
    ap (λ (k : ℕ). length (number_bytes t) + k) (length-append (number_bytes (length i)) i)

pub element_room : (t n : ℕ) → element_size t n ≡ length (header_bytes t n) + n
unfolding element_size
element_room t n = omega (arith, header_length t n)

pub encode_one : (t : ℕ) (i : List ℕ) → encode (holds t i) ≡ el t i
unfolding encode
encode_one t i = append-nil (el t i)

pub encode_append : (xs ys : List Element) → encode (xs ++ ys) ≡ encode xs ++ encode ys
unfolding encode
encode_append [] ys = refl
encode_append (x ∷ xs) ys =
    ap (λ (l : List ℕ). element_bytes x ++ l) (encode_append xs ys) ∙ sym (append_assoc (element_bytes x) (encode xs) (encode ys))
