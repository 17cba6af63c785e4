-- Two components compared: when they are equal, and how many value bytes are looked at, in the three cases of another type or length, equal values
-- and unequal ones. Assumes nothing.
use Prim.Native.Nat.{ℕ, ◌+◌}
use mathlib.Core.Path.{◌≡◌, refl, sym, ap, ◌∙◌}
use mathlib.Core.Bool.{Bool, true, false, ◌&&◌}
use mathlib.Core.List.{List, [], ◌∷◌, ◌++◌, reverse, reverse-cons, reverse-append, append_assoc}
use native.Mathlib.Omega.{arith}
use borrow.Author.Tests.{eq-eqb, ne_eqb, eqb-true}
use lib.Dec.{eqb}
use lib.ListN.{length, length-append, length-reverse}
use Rattle.tlv.specs.Bytes.{same_bytes}
use Rattle.tlv.specs.Element.{Element}
use Rattle.tlv.proofs.Bytes.{same_refl, same_true}
use Rattle.lvs_spec.specs.Names.{same, until_unequal, looked}
use Rattle.lvs_spec.proofs.Grammar.{both}

-- ---- equal components

pub same_itself : (e : Element) → same e e ≡ true
unfolding same
same_itself e = rw (eq-eqb e.type e.type refl, same_refl e.inside)

same_equal : (a b : Element) → same a b ≡ true → a ≡ b
unfolding same
same_equal a b h =
    let t = both (eqb a.type b.type) (same_bytes a.inside b.inside) h in
    let p : a.type ≡ b.type = eqb-true a.type b.type t.0 in
    let q : a.inside ≡ b.inside = same_true a.inside b.inside t.1 in
    λ i. record { type = p i; inside = q i }

pub not_same : (a b : Element) → (a ≡ b → ⊥) → same a b ≡ false
not_same a b n = go (same a b) refl
  where
    go : (t : Bool) → same a b ≡ t → t ≡ false
    go true p = absurd (n (same_equal a b p))
    go false p = refl

-- ---- from the front

all_equal : (xs : List ℕ) → until_unequal xs xs ≡ length xs
unfolding until_unequal
all_equal [] = refl
all_equal (x ∷ xs) = rw (eq-eqb x x refl, all_equal xs) (omega arith)

one_unequal : (zs xs ys : List ℕ) {x y : ℕ} → (x ≡ y → ⊥) → until_unequal (zs ++ x ∷ xs) (zs ++ y ∷ ys) ≡ length zs + 1
unfolding until_unequal
one_unequal [] xs ys {x} {y} n = rw (ne_eqb x y n) (omega arith)
one_unequal (z ∷ zs) xs ys n = rw (eq-eqb z z refl, one_unequal zs xs ys n) (omega arith)

-- what stood behind an entry stands in front of it
reversed : (xs : List ℕ) (x : ℕ) (zs : List ℕ) → reverse (xs ++ x ∷ zs) ≡ reverse zs ++ x ∷ reverse xs
reversed xs x zs =
    reverse-append xs (x ∷ zs) ∙ ap (λ (l : List ℕ). l ++ reverse xs) (reverse-cons x zs) ∙ append_assoc (reverse zs) (x ∷ []) (reverse xs)

-- ---- two components

module _ (a b : Element) where
  pub looked_other : (a.type ≡ b.type → length a.inside ≡ length b.inside → ⊥) → looked a b ≡ 0
  unfolding looked
  looked_other n = rw (neither (eqb a.type b.type) (eqb (length a.inside) (length b.inside)) refl refl)
    where
      neither : (t u : Bool) → eqb a.type b.type ≡ t → eqb (length a.inside) (length b.inside) ≡ u → (t && u) ≡ false
      neither true true p q = absurd (n (eqb-true _ _ p) (eqb-true _ _ q))
      neither true false p q = refl
      neither false u p q = refl

  from_back : a.type ≡ b.type → length a.inside ≡ length b.inside
      → looked a b ≡ until_unequal (reverse a.inside) (reverse b.inside)
  unfolding looked
  from_back t l = rw (eq-eqb a.type b.type t, eq-eqb (length a.inside) (length b.inside) l)

  pub looked_equal : same a b ≡ true → looked a b ≡ length a.inside
  looked_equal h =
      let e : a.inside ≡ b.inside = ap (λ (x : Element). x.inside) (same_equal a b h) in
      from_back (ap (λ (x : Element). x.type) (same_equal a b h)) (ap length e) ∙
      ap (λ (l : List ℕ). until_unequal (reverse a.inside) (reverse l)) (sym e) ∙ all_equal (reverse a.inside) ∙ length-reverse a.inside

  -- `zs` are the equal ones at the back
  pub looked_unequal : (xs ys zs : List ℕ) {x y : ℕ} → a.type ≡ b.type → length xs ≡ length ys → a.inside ≡ xs ++ x ∷ zs → b.inside ≡ ys ++ y ∷ zs
      → (x ≡ y → ⊥) → looked a b ≡ length zs + 1
  looked_unequal xs ys zs {x} {y} t l p q n =
      let s : length a.inside ≡ length b.inside = rw (p, q, length-append xs (x ∷ zs), length-append ys (y ∷ zs), l) in
      let front = one_unequal (reverse zs) (reverse xs) (reverse ys) n in
      from_back t s ∙ rw (p, q, reversed xs x zs, reversed ys y zs) front ∙ ap (λ (k : ℕ). k + 1) (length-reverse zs)
