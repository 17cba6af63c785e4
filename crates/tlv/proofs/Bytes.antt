-- Lists of bytes: the numbers that they spell, and equality. `big_endian` and `big_endian_bytes` undo one another, at every width. Assumes nothing.
use mathlib.Core.Path.{◌≡◌, refl, sym, ap, ◌∙◌}
use mathlib.Core.List.{List, [], ◌∷◌, ◌++◌}
use mathlib.Core.Bool.{Bool, true, false, false≢true, ◌&&◌}
use Prim.Native.Nat.{ℕ, zero, suc, ◌+◌, ◌*◌, ◌%◌, ◌^◌, ◌≤◌, ◌<◌}
use native.Mathlib.Nat.{add-mul, pow-suc, pow-succ', mul_assoc, mod-lt, div-add-mod', div-lt_iff_lt-mul}
use native.Mathlib.Omega.{arith}
use borrow.Author.Tests.{eqb-true, eq-eqb}
use lib.Arith.{digits_lt, digits_div, digits_mod}
use lib.Dec.{eqb, lit<}
use lib.ListN.{length, take, drop, get_or, length-append, length-drop}
use lib.Seq.{get_or-drop, length-take-le, take-add, drop-drop, drop-cons, take-append_seam, drop-append_seam}
use lib.Pow.{pow-add}
use Rattle.std.proofs.Common.{nat_eq}
use Rattle.std.specs.Cmp.Lexicographic.{pointwise}
use Rattle.std.proofs.Common.{take_all}
use Rattle.tlv.specs.Bytes.{Bytes, same_bytes, big_endian, big_endian_bytes}
use Rattle.tlv.specs.Spelled.{Spelled}

pub pow_pos : (w : ℕ) → 0 < 256 ^ w
pow_pos zero = lit< tt
pow_pos (suc w) = rw (pow-suc 256 w) (omega (arith, pow_pos w))

-- ---- lists of bytes

pub bytes_drop : (k : ℕ) (s : List ℕ) → Bytes s → Bytes (drop k s)
bytes_drop k s h i = rw get_or-drop (h (k + i))

pub bytes_take : (k : ℕ) (s : List ℕ) → Bytes s → Bytes (take k s)
bytes_take zero s h i = lit< tt
bytes_take (suc k) [] h i = lit< tt
bytes_take (suc k) (x ∷ s) h zero = h 0
bytes_take (suc k) (x ∷ s) h (suc i) = bytes_take k s (λ j. h (suc j)) i

pub bytes_append : (s t : List ℕ) → Bytes s → Bytes t → Bytes (s ++ t)
bytes_append [] t h g i = g i
bytes_append (x ∷ s) t h g zero = h 0
bytes_append (x ∷ s) t h g (suc i) = bytes_append s t (λ j. h (suc j)) g i

pub bytes_left : (s t : List ℕ) → Bytes (s ++ t) → Bytes s
bytes_left s t h = rw (take-append_seam s t) at (bytes_take (length s) (s ++ t) h)

pub bytes_right : (s t : List ℕ) → Bytes (s ++ t) → Bytes t
bytes_right s t h = rw (drop-append_seam s t) at (bytes_drop (length s) (s ++ t) h)

pub bytes_spelled : (w n : ℕ) → n < 256 ^ w → Bytes (big_endian_bytes w n)
unfolding big_endian_bytes
bytes_spelled zero n h i = lit< tt
bytes_spelled (suc w) n h zero = (div-lt_iff_lt-mul (pow_pos w)).1 (rw pow-succ' at h)
bytes_spelled (suc w) n h (suc i) = bytes_spelled w (n % 256 ^ w) (mod-lt n (pow_pos w)) i

-- ---- there and back

pub big_lt : (s : List ℕ) → Bytes s → big_endian s < 256 ^ length s
unfolding big_endian
big_lt [] h = lit< tt
big_lt (x ∷ s) h = rw (pow-succ' 256 (length s)) (digits_lt (h 0) (big_lt s (λ i. h (suc i))))

pub length-spelled : (w n : ℕ) → length (big_endian_bytes w n) ≡ w
unfolding big_endian_bytes
length-spelled zero n = refl
length-spelled (suc w) n = ap suc (length-spelled w (n % 256 ^ w))

pub big_spelled : (w n : ℕ) → n < 256 ^ w → big_endian (big_endian_bytes w n) ≡ n
unfolding big_endian big_endian_bytes
big_spelled zero n h = omega arith
big_spelled (suc w) n h =
    rw (length-spelled w (n % 256 ^ w), big_spelled w (n % 256 ^ w) (mod-lt n (pow_pos w))) (div-add-mod' n (256 ^ w))

pub spelled_big : (s : List ℕ) → Bytes s → big_endian_bytes (length s) (big_endian s) ≡ s
unfolding big_endian big_endian_bytes
spelled_big [] h = refl
spelled_big (x ∷ s) h =
    let lt = big_lt s (λ i. h (suc i)) in
    rw (digits_div x lt, digits_mod x lt, spelled_big s (λ i. h (suc i)))

-- ---- w + v bytes are the first w bytes and the v after them

pub big_append : (s t : List ℕ) → big_endian (s ++ t) ≡ big_endian s * 256 ^ length t + big_endian t
unfolding big_endian
big_append [] t = omega arith
big_append (x ∷ s) t =
    let p : x * 256 ^ length (s ++ t) ≡ x * 256 ^ length s * 256 ^ length t =
    ap (λ (k : ℕ). x * 256 ^ k) (length-append s t) ∙ ap (λ (k : ℕ). x * k) (pow-add 256 (length s) (length t)) ∙
    sym (mul_assoc x (256 ^ length s) (256 ^ length t)) in
    omega (arith, big_append s t, add-mul (x * 256 ^ length s) (big_endian s) (256 ^ length t))

-- and at a place: what a number of w bytes and one of the v bytes behind them come to
pub joined : (s : List ℕ) (at w v : ℕ) {x y : ℕ} → Spelled s at w x → Spelled s (at + w) v y → at + (w + v) ≤ length s
    → Spelled s at (w + v) (x * 256 ^ v + y)
joined s at w v X Y fits =
    let back : List ℕ = take v (drop (at + w) s) in
    let long : length back ≡ v = length-take-le v (drop (at + w) s) (simp length-drop (omega arith)) in
    let cut : take (w + v) (drop at s) ≡ take w (drop at s) ++ back = take-add w v (drop at s) ∙ rw (drop-drop w at s) in
    record {
      is = rw (cut, big_append (take w (drop at s)) back, long, ← X.is, ← Y.is);
      below = rw (pow-add 256 w v) (digits_lt X.below Y.below);
    }

-- one byte more at the end
pub big_more : (s : List ℕ) (i : ℕ) → i < length s → big_endian (take (i + 1) s) ≡ big_endian (take i s) * 256 + get_or s i 0
unfolding big_endian
big_more s i h =
    let one : take 1 (drop i s) ≡ get_or s i 0 ∷ [] = rw (drop-cons s i 0) refl in
    rw (take-add i 1 s, one) (big_append (take i s) (get_or s i 0 ∷ []) ∙ omega arith)

-- the lists of a length that an integer may have
module _ (s : List ℕ) where
  whole : {n : ℕ} → length s ≡ n → big_endian s ≡ big_endian (take n s)
  whole {n} e = ap big_endian (sym (take_all n s (omega arith)))

  none : big_endian (take 0 s) ≡ 0
  unfolding big_endian
  none = refl

  pub spelled_1 : length s ≡ 1 → big_endian s ≡ get_or s 0 0
  spelled_1 e = omega (arith, whole e, none, big_more s 0 (omega arith))

  pub spelled_2 : length s ≡ 2 → big_endian s ≡ get_or s 0 0 * 256 + get_or s 1 0
  spelled_2 e = omega (arith, whole e, none, big_more s 0 (omega arith), big_more s 1 (omega arith))

  pub spelled_4 : length s ≡ 4 → big_endian s ≡ ((get_or s 0 0 * 256 + get_or s 1 0) * 256 + get_or s 2 0) * 256 + get_or s 3 0
  spelled_4 e =
      omega (arith, whole e, none, big_more s 0 (omega arith), big_more s 1 (omega arith), big_more s 2 (omega arith), big_more s 3 (omega arith))

  pub four : 4 < length s → 5 < length s → 6 < length s → 7 < length s → big_endian (take 8 s)
      ≡ (((big_endian (take 4 s) * 256 + get_or s 4 0) * 256 + get_or s 5 0) * 256 + get_or s 6 0) * 256 + get_or s 7 0
  four a b c d = omega (arith, big_more s 4 a, big_more s 5 b, big_more s 6 c, big_more s 7 d)

  pub front : 3 < length s → big_endian (take 4 s) ≡ ((get_or s 0 0 * 256 + get_or s 1 0) * 256 + get_or s 2 0) * 256 + get_or s 3 0
  front h =
      omega (arith, none, big_more s 0 (omega arith), big_more s 1 (omega arith), big_more s 2 (omega arith), big_more s 3 (omega arith))

  pub spelled_8 : length s ≡ 8 → big_endian s ≡ big_endian (take 8 s)
  spelled_8 e = whole e

-- ---- equality

pub same_refl : (s : List ℕ) → same_bytes s s ≡ true
unfolding same_bytes
same_refl [] = refl
same_refl (x ∷ s) = rw (eq-eqb x x refl, same_refl s)

pub same_true : (s t : List ℕ) → same_bytes s t ≡ true → s ≡ t
unfolding same_bytes
same_true [] [] h = refl
same_true [] (y ∷ t) h = absurd (false≢true h)
same_true (x ∷ s) [] h = absurd (false≢true h)
same_true (x ∷ s) (y ∷ t) h = go (eqb x y) refl h (same_true s t)
  where
    go : (c : Bool) → eqb x y ≡ c → (c && same_bytes s t) ≡ true → (same_bytes s t ≡ true → s ≡ t) → x ∷ s ≡ y ∷ t
    go true p q rec = let e = eqb-true x y p in let r = rec q in cc
    go false p q rec = absurd (false≢true q)

pub same_false : (s t : List ℕ) → (s ≡ t → ⊥) → same_bytes s t ≡ false
same_false s t n = go (same_bytes s t) refl
  where
    go : (c : Bool) → same_bytes s t ≡ c → same_bytes s t ≡ false
    go true p = absurd (n (same_true s t p))
    go false p = p

-- as the library compares two slices
pub same_pointwise : (s t : List ℕ) → same_bytes s t ≡ pointwise nat_eq s t
unfolding same_bytes
same_pointwise [] [] = refl
same_pointwise [] (y ∷ t) = refl
same_pointwise (x ∷ s) [] = refl
same_pointwise (x ∷ s) (y ∷ t) = rw (same_pointwise s t)
