-- The bytes that spell a number, stored: the last of the library's, and a type or a length is a mark and a width. Assumes nothing.
use mathlib.Core.Path.{◌≡◌, refl, sym, ap, subst, ◌∙◌}
use mathlib.Core.Bool.{Bool, true, false, cond, ◌||◌}
use mathlib.Core.List.{List, [], ◌∷◌}
use Prim.Native.Nat.{ℕ, zero, suc, ◌+◌, ◌-◌, ◌*◌, ◌/◌, ◌%◌, ◌^◌, ◌≤◌, ◌<◌}
use native.Mathlib.Nat.{mod-lt, mod-eq_of_lt, div-one, pow-suc, mul_comm}
use native.Mathlib.Numerals.{add-one}
use lib.Arith.{mod-mul, digits_div, digits_mod}
use borrow.Rule.Slice.PartMut.{put_mid}
use Rattle.std.specs.Int.{bytes_high_first, byte_at}
use native.Mathlib.Omega.{arith}
use borrow.Author.Tests.{lt-ltb, le-ltb, ltb-true, ltb-false, eqb-true}
use lib.Dec.{ltb, eqb, lit≤}
use lib.ListN.{length, set, take, drop, length-set}
use lib.Seq.{sets}
use Rattle.tlv.specs.Bytes.{big_endian_bytes}
use Rattle.tlv.specs.Number.{number_bytes, mark, width, integer_size}
use Rattle.tlv.proofs.Bytes.{pow_pos, length-spelled}
use Rattle.tlv_writer.specs.Stored.{Stored, Digits}
use Rattle.tlv_writer.proofs.Stores.{stored_part}

-- ---- the last of the bytes that the library spells a number in

-- the library's bytes, one after the other
high_first_is : (w n : ℕ) → bytes_high_first w n ≡ big_endian_bytes w (n % 256 ^ w)
unfolding big_endian_bytes
high_first_is zero n = refl
high_first_is (suc w) n =
    let whole : n % 256 ^ suc w ≡ n / 256 ^ w % 256 * 256 ^ w + n % 256 ^ w =
    ap (λ (k : ℕ). n % k) (pow-suc 256 w ∙ mul_comm (256 ^ w) 256) ∙ mod-mul n {m = 256} {c = 256 ^ w} (omega arith) (pow_pos w) in
    let low : n % 256 ^ w < 256 ^ w = mod-lt n (pow_pos w) in
    let first : n % 256 ^ suc w / 256 ^ w ≡ n / 256 ^ w % 256 = ap (λ (k : ℕ). k / 256 ^ w) whole ∙ digits_div (n / 256 ^ w % 256) low in
    let rest : n % 256 ^ suc w % 256 ^ w ≡ n % 256 ^ w = ap (λ (k : ℕ). k % 256 ^ w) whole ∙ digits_mod (n / 256 ^ w % 256) low in
    (λ i. (byte_is w n ∙ sym first) i ∷ (high_first_is w n ∙ ap (big_endian_bytes w) (sym rest)) i)
  where
    byte_is : (w n : ℕ) → byte_at w n ≡ n / 256 ^ w % 256
    byte_is zero n = ap (λ (k : ℕ). k % 256) (sym (div-one n))
    byte_is (suc w) n = refl

-- what holds of each of the four widths
by_four : (P : ℕ → Type 0) (w : ℕ) → integer_size w ≡ true → P 1 → P 2 → P 4 → P 8 → P w
by_four P w e a b c d = go (eqb w 1) (eqb w 2) (eqb w 4) (eqb w 8) refl refl refl refl e
  where
    go : (x y z t : Bool) → eqb w 1 ≡ x → eqb w 2 ≡ y → eqb w 4 ≡ z → eqb w 8 ≡ t → (x || (y || (z || t))) ≡ true → P w
    go true y z t p q r s h = subst P (sym (eqb-true w 1 p)) a
    go false true z t p q r s h = subst P (sym (eqb-true w 2 q)) b
    go false false true t p q r s h = subst P (sym (eqb-true w 4 r)) c
    go false false false true p q r s h = subst P (sym (eqb-true w 8 s)) d
    go false false false false p q r s h = let z : ◌≡◌ {A = ℕ} 0 1 = cc in absurd (omega arith)

-- the last of its eight
last_of : (w n : ℕ) → integer_size w ≡ true → take (8 - (8 - w)) (drop (8 - w) (bytes_high_first 8 n)) ≡ bytes_high_first w n
last_of w n e = by_four (λ (k : ℕ). take (8 - (8 - k)) (drop (8 - k) (bytes_high_first 8 n)) ≡ bytes_high_first k n) w e refl refl refl refl

-- a number that w bytes can spell, from the library's bytes
pub digits_stored : {b y bytes : List ℕ} {at w n room k : ℕ} → Digits at w n room → room ≡ length b → k ≡ w → bytes ≡ bytes_high_first 8 n
    → y ≡ take (8 - (8 - w)) (drop (8 - w) bytes) → Stored b (put_mid at k b y) at (big_endian_bytes w n)
digits_stored {b} {y} {at = at} {w = w} {n = n} {k = k} D r e big is =
    let same : n % 256 ^ w ≡ n = mod-eq_of_lt D.small in
    let last : y ≡ bytes_high_first w n = is ∙ ap (λ (l : List ℕ). take (8 - (8 - w)) (drop (8 - w) l)) big ∙ last_of w n D.size in
    let digits : y ≡ big_endian_bytes w n = last ∙ high_first_is w n ∙ ap (big_endian_bytes w) same in
    let long : length (big_endian_bytes w n) ≡ w = length-spelled w n in
    stored_part b at k digits (omega arith) (omega (arith, D.fits))

-- ---- the shortest form of a type or a length

module _ (n : ℕ) where
  -- what holds of each mark and width holds of a number's
  by_mark : (P : ℕ → ℕ → Type 0) → (n < 65536 → P 253 2) → (n < 4294967296 → P 254 4) → P 255 8 → P (mark n) (width (mark n))
  unfolding mark width
  by_mark P a b c = two (ltb n 65536) (ltb n 4294967296) refl refl
    where
      two : (x y : Bool) → ltb n 65536 ≡ x → ltb n 4294967296 ≡ y → P (cond x 253 (cond y 254 255)) (width (cond x 253 (cond y 254 255)))
      two true y p q = a (ltb-true _ _ p)
      two false true p q = b (ltb-true _ _ q)
      two false false p q = c

  width_size : integer_size (width (mark n)) ≡ true
  width_size = by_mark (λ m w. integer_size w ≡ true) (λ h. refl) (λ h. refl) refl

  width_fits : n < 2 ^ 64 → n < 256 ^ width (mark n)
  width_fits h = by_mark (λ m w. n < 256 ^ w) (λ p. p) (λ p. p) h

  width_most : width (mark n) ≤ 8
  width_most = by_mark (λ m w. w ≤ 8) (λ h. lit≤ tt) (λ h. lit≤ tt) (lit≤ tt)

  short_is : n < 253 → number_bytes n ≡ n ∷ []
  unfolding number_bytes
  short_is h = rw (lt-ltb _ _ h)

  long_is : 253 ≤ n → number_bytes n ≡ mark n ∷ big_endian_bytes (width (mark n)) n
  unfolding number_bytes
  long_is h = rw (le-ltb _ _ h)

  pub short_size : n < 253 → length (number_bytes n) ≡ 1
  short_size h = ap length (short_is h)

  pub long_size : 253 ≤ n → length (number_bytes n) ≡ 1 + width (mark n)
  long_size h = ap length (long_is h) ∙ omega (arith, length-spelled (width (mark n)) n)

  pub number_most : length (number_bytes n) ≤ 9
  number_most = go (ltb n 253) refl
    where
      go : (t : Bool) → ltb n 253 ≡ t → length (number_bytes n) ≤ 9
      go true e = omega (arith, short_size (ltb-true _ _ e))
      go false e = omega (arith, long_size (ltb-false _ _ e), width_most)

  pub number_size_1 : n < 253 → (1 ≡ length (number_bytes n)) × (1 ≤ 9)
  number_size_1 h = (sym (short_size h), lit≤ tt)

  pub number_size : {m w : ℕ} → 253 ≤ n → m ≡ mark n → w ≡ width m → (1 + w ≡ length (number_bytes n)) × (1 + w ≤ 9)
  number_size {m} {w} h em ew =
      let e : w ≡ width (mark n) = ew ∙ ap width em in
      (omega (arith, long_size h), omega (arith, width_most))

  pub short_stored : (at : ℕ) (b : List ℕ) → n < 253 → (at + 1 ≡ at + length (number_bytes n)) × Stored b (set b at n) at (number_bytes n)
  short_stored at b h = (omega (arith, short_size h), record { is = ap (sets b at) (sym (short_is h)) })

  -- the mark, stored, and then the bytes
  pub long_stored : {m w behind : ℕ} (at : ℕ) (b₀ : List ℕ) {b₁ : List ℕ} → 253 ≤ n → m ≡ mark n → w ≡ width m → behind ≡ at + 1
      → Stored (set b₀ at m) b₁ behind (big_endian_bytes w n) → (behind + w ≡ at + length (number_bytes n)) × Stored b₀ b₁ at (number_bytes n)
  long_stored {m} {w} {behind} at b₀ h em ew k P =
      let e : w ≡ width (mark n) = ew ∙ ap width em in
      let is : m ∷ big_endian_bytes w n ≡ number_bytes n = (λ i. em i ∷ big_endian_bytes (e i) n) ∙ sym (long_is h) in (
        omega (arith, long_size h),
        record { is = P.is ∙ ap (λ (j : ℕ). sets (set b₀ at m) j (big_endian_bytes w n)) (k ∙ add-one at) ∙ ap (sets b₀ at) is },
      )

  -- the bytes behind the mark have their place
  pub digits_behind : {m w : ℕ} (at : ℕ) (b : List ℕ) → 253 ≤ n → m ≡ mark n → w ≡ width m → at + length (number_bytes n) ≤ length b → n < 2 ^ 64
      → Digits (at + 1) w n (length (set b at m))
  digits_behind {m} {w} at b h em ew fits small =
      let e : w ≡ width (mark n) = ew ∙ ap width em in
      record {
        size = rw e width_size;
        fits = omega (arith, long_size h, length-set b at m);
        small = rw e (width_fits small);
      }
