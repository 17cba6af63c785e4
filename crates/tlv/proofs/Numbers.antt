-- What `number_at` is at a place, by the tests that the reader makes. Assumes nothing.
use mathlib.Core.Path.{◌≡◌, refl, sym, ap, subst, ◌∙◌}
use mathlib.Core.List.{List, [], ◌∷◌}
use mathlib.Core.Bool.{Bool, true, false, cond}
use Prim.Native.Nat.{ℕ, suc, ◌+◌, ◌-◌, ◌≤◌, ◌<◌}
use native.Mathlib.Nat.{add_assoc}
use native.Mathlib.Numerals.{add-one}
use native.Mathlib.Omega.{arith}
use borrow.Author.Tests.{lt-ltb, le-ltb, le-leb, lt-leb, ltb-true, ltb-false, leb-true}
use mathlib.Core.Logic.{◌⊎◌, inl, inr, ⊎_elim}
use lib.ListN.{length, take, drop, get_or, length-drop, drop_of_length-le}
use lib.Seq.{drop-cons}
use lib.Dec.{leb, ltb, eqb}
use Rattle.std.specs.List.{slice_range}
use Rattle.tlv.specs.Bytes.{big_endian}
use Rattle.tlv.specs.Number.{Num, unreadable, num, number, wide, width, least, integer, integer_size}
use Rattle.tlv.specs.Answers.{number_at, number_from, integer_of}
use Rattle.std.specs.declared.option.Option.{Option}
use Rattle.std.specs.declared.option.Option.TheVariants.{None, Some}
use Rattle.tlv.specs.declared.Number.{Number}

pub drop-next : (s : List ℕ) (at : ℕ) → at < length s → drop at s ≡ get_or s at 0 ∷ drop (at + 1) s
drop-next s at h = rw (add-one at, drop-cons s at 0)

module _ (s : List ℕ) (at : ℕ) where
  pub none_left : length s ≤ at → number_at s at ≡ None
  unfolding number_at number
  none_left h = rw (drop_of_length-le s h)

  module _ (h : at < length s) where
    pub one_byte : get_or s at 0 < 253 → number_at s at ≡ Some (record { value = get_or s at 0; next = at + 1 })
    unfolding number_at number
    one_byte lt = rw (drop-next s at h, lt-ltb _ _ lt)

    -- w bytes follow the first, and spell at least l
    module _ (ge : 253 ≤ get_or s at 0) where
      abbrev w : ℕ
      w = width (get_or s at 0)

      abbrev l : ℕ
      l = least (get_or s at 0)

      abbrev v : ℕ
      v = big_endian (take w (drop (at + 1) s))

      number_is : number (drop at s) ≡ cond (leb w (length s - (at + 1))) (cond (leb l v) (num v (1 + w)) unreadable) unreadable
      unfolding number wide
      number_is = rw (drop-next s at h, le-ltb _ _ ge, length-drop (at + 1) s)

      pub too_short : length s - (at + 1) < w → number_at s at ≡ None
      unfolding number_at
      too_short lt = rw (number_is, lt-leb _ _ lt)

      pub not_shortest : w ≤ length s - (at + 1) → v < l → number_at s at ≡ None
      unfolding number_at
      not_shortest le lt = rw (number_is, le-leb _ _ le, lt-leb _ _ lt)

      pub many_bytes : w ≤ length s - (at + 1) → l ≤ v → number_at s at ≡ Some (record { value = v; next = at + 1 + w })
      unfolding number_at
      many_bytes le ge' = rw (number_is, le-leb _ _ le, le-leb _ _ ge', add_assoc at 1 w)

-- ---- sizes

pub width_most : (b : ℕ) → width b ≤ 8
unfolding width
width_most b = go (eqb b 253) (eqb b 254)
  where
    go : (x y : Bool) → cond x 2 (cond y 4 8) ≤ 8
    go true y = omega arith
    go false true = omega arith
    go false false = omega arith

width_size : (b : ℕ) → integer_size (width b) ≡ true
unfolding width
width_size b = go (eqb b 253) (eqb b 254)
  where
    go : (x y : Bool) → integer_size (cond x 2 (cond y 4 8)) ≡ true
    go true y = refl
    go false true = refl
    go false false = refl

-- what was read of the bytes that such a first byte announces
module _ (s : List ℕ) (from b : ℕ) {next : ℕ} {c : List ℕ} {r : Option ℕ}
    (cut : (from ≤ next) × (next ≤ length s) × (c ≡ slice_range s from next) × (length c + from ≡ next))
    (e : r ≡ integer_of c) (w : next ≡ from + width b) where
  pub width_read : r ≡ Some (big_endian (take (width b) (drop from s)))
  unfolding integer_of integer
  width_read =
      let l : length c ≡ width b = omega arith in
      let k : next - from ≡ width b = omega arith in
      e ∙ rw (l, width_size b) (ap (λ x. Some (big_endian x)) (cut.2 ∙ ap (λ n. take n (drop from s)) k))

  pub width_there : r ≡ None → ⊥
  width_there f = let z : ◌≡◌ {A = ℕ} 0 1 = (let g = sym f ∙ width_read in cc) in omega arith

  pub width_value : {v : ℕ} → r ≡ Some v → v ≡ big_endian (take (width b) (drop from s))
  width_value f = let g = sym f ∙ width_read in cc

-- ---- what a number that was found says

-- which branch an `if` took
pub cond-case {ℓ} : {X : Type ℓ} (t : Bool) (x y z : X) → cond t x y ≡ z → ((t ≡ true) × (x ≡ z)) ⊎ ((t ≡ false) × (y ≡ z))
cond-case true x y z e = inl (refl, e)
cond-case false x y z e = inr (refl, e)

pub unreadable_num : {v k : ℕ} → unreadable ≡ num v k → ⊥
unreadable_num e = let z : ◌≡◌ {A = ℕ} 0 1 = cc in omega arith

pub cond_num : (t : Bool) (x : Num) (v k : ℕ) → cond t x unreadable ≡ num v k → (t ≡ true) × (x ≡ num v k)
cond_num true x v k e = (refl, e)
cond_num false x v k e = absurd (unreadable_num e)

-- a number v of k bytes whose first byte is x and that goes on with bs
pub data Shape (x : ℕ) (bs : List ℕ) (v k : ℕ) : Type 0 where
  one : x < 253 → v ≡ x → k ≡ 1 → Shape x bs v k
  many : 253 ≤ x → width x ≤ length bs → v ≡ big_endian (take (width x) bs) → least x ≤ v → k ≡ 1 + width x → Shape x bs v k

pub shape : (x : ℕ) (bs : List ℕ) (v k : ℕ) → number (x ∷ bs) ≡ num v k → Shape x bs v k
unfolding number wide
shape x bs v k e = ⊎_elim small large (cond-case (ltb x 253) _ _ _ e)
  where
    small : (ltb x 253 ≡ true) × (num x 1 ≡ num v k) → Shape x bs v k
    small h = one (ltb-true _ _ h.0) (cc) (cc)

    large : (ltb x 253 ≡ false) × (wide (width x) (least x) bs ≡ num v k) → Shape x bs v k
    large h =
        let a = cond_num (leb (width x) (length bs)) _ v k h.1 in
        let b = cond_num (leb (least x) (big_endian (take (width x) bs))) _ v k a.1 in
        let ev : v ≡ big_endian (take (width x) bs) = cc in
        many (ltb-false _ _ h.0) (leb-true _ _ a.0) ev (rw ev (leb-true _ _ b.0)) (cc)

pub number_size : (b : List ℕ) (v k : ℕ) → number b ≡ num v k → (0 < k) × (k ≤ length b)
unfolding number
number_size [] v k e = absurd (unreadable_num e)
number_size (x ∷ bs) v k e = go (shape x bs v k e)
  where
    go : Shape x bs v k → (0 < k) × (k ≤ suc (length bs))
    go (one a p q) = omega arith
    go (many a p q r t) = omega arith

-- what the reader's answer says of the list
pub record Numbered (s : List ℕ) (at v next : ℕ) : Type 0 where
  pub size : ℕ
  pub is : number (drop at s) ≡ num v size
  pub place : next ≡ at + size
  pub some : 0 < size
  pub within : next ≤ length s

-- what each answer of the reader says of the list from its place on
abbrev pub NumberSeen : List ℕ → ℕ → Option Number → Type 0
NumberSeen s at (Some n) = Numbered s at n.value n.next
NumberSeen s at None = number (drop at s) ≡ unreadable

read_seen : (s : List ℕ) (at : ℕ) → NumberSeen s at (number_at s at)
unfolding number_at
read_seen s at = go (number (drop at s)) refl
  where
    go : (m : Num) → number (drop at s) ≡ m → NumberSeen s at (number_from at m)
    go unreadable p = p
    go (num v k) p =
        let b = simp length-drop at (number_size (drop at s) v k p) in
        record { size = k; is = p; place = refl; some = b.0; within = omega arith }

pub numbered : (s : List ℕ) (at : ℕ) {r a : Option Number} → r ≡ number_at s at → r ≡ a → NumberSeen s at a
numbered s at {r} {a} e f = subst (NumberSeen s at) (sym e ∙ f) (read_seen s at)

pub byte : (s : List ℕ) (at : ℕ) → at < length s → get_or s at 0 < 253 → Numbered s at (get_or s at 0) (at + 1)
byte s at h lt = numbered s at (sym (one_byte s at h lt)) refl

pub no_byte : (s : List ℕ) (at : ℕ) → length s ≤ at → number (drop at s) ≡ unreadable
no_byte s at h = numbered s at (sym (none_left s at h)) refl
