-- Laws of `min`, `broken` and `least_of`. Assumes nothing.
use mathlib.Core.Path.{◌≡◌, refl, sym, ap, ◌∙◌}
use mathlib.Core.Bool.{not}
use mathlib.Core.List.{List, [], ◌∷◌, ◌++◌, map}
use Prim.Native.Nat.{ℕ, ◌≤◌, ◌<◌, min}
use native.Mathlib.Nat.{le_antisymm, le_trans, le_refl, le-min, min_comm, min-le_left, min-le_right, min-eq_left, min-eq_right}
use borrow.Author.Tests.{eq-eqb, ne_eqb, le-leb, lt-leb, lt-ltb, le-ltb}
use lib.Dec.{leb, eqb}
use Rattle.tlv.specs.Lists.{each}
use Rattle.lvs_spec.specs.Limits.{max_tag}
use Rattle.lvs_spec.specs.Verdict.{bad_tag}
use Rattle.lvs_rules.specs.Lowest.{no_rule, broken, least_of, tag_rule}

-- ---- min

pub min_assoc : (a b c : ℕ) → min (min a b) c ≡ min a (min b c)
min_assoc a b c =
    le_antisymm
    (le-min (le_trans (min-le_left _ _) (min-le_left a b)) (le-min (le_trans (min-le_left _ _) (min-le_right a b)) (min-le_right _ _)))
    (le-min (le-min (min-le_left _ _) (le_trans (min-le_right _ _) (min-le_left b c))) (le_trans (min-le_right _ _) (min-le_right b c)))

pub min_swap : (a b c : ℕ) → min a (min b c) ≡ min b (min a c)
min_swap a b c = sym (min_assoc a b c) ∙ ap (λ (x : ℕ). min x c) (min_comm a b) ∙ min_assoc b a c

pub min_pairs : (a b c d : ℕ) → min (min a b) (min c d) ≡ min (min a c) (min b d)
min_pairs a b c d = simp (min_assoc, min_swap)

-- ---- a rule by its test

module _ (r a b : ℕ) where
  pub equal : a ≡ b → no_rule ≡ broken r (not (eqb a b))
  unfolding broken
  equal h = rw (eq-eqb a b h)

  pub unequal : (a ≡ b → ⊥) → r ≡ broken r (not (eqb a b))
  unfolding broken
  unequal h = rw (ne_eqb a b h)

  pub reached : a ≤ b → r ≡ broken r (leb a b)
  unfolding broken
  reached h = rw (le-leb a b h)

  pub not_reached : b < a → no_rule ≡ broken r (leb a b)
  unfolding broken
  not_reached h = rw (lt-leb a b h)

module _ (t : ℕ) where
  pub tag_zero : t ≡ 0 → 5 ≡ tag_rule t
  unfolding tag_rule bad_tag broken
  tag_zero h = rw (eq-eqb t 0 h)

  pub tag_high : (t ≡ 0 → ⊥) → max_tag < t → 5 ≡ tag_rule t
  unfolding tag_rule bad_tag broken
  tag_high no' h = rw (ne_eqb t 0 no', lt-ltb max_tag t h)

  pub tag_fine : (t ≡ 0 → ⊥) → t ≤ max_tag → no_rule ≡ tag_rule t
  unfolding tag_rule bad_tag broken
  tag_fine no' h = rw (ne_eqb t 0 no', le-ltb max_tag t h)

-- ---- lists

module _ {A : Type 0} where
  pub least_most : (f : A → ℕ) (xs : List A) → least_of f xs ≤ no_rule
  unfolding least_of
  least_most f [] = le_refl _
  least_most f (x ∷ xs) = le_trans (min-le_right _ _) (least_most f xs)

  pub least_same : {f g : A → ℕ} → ((x : A) → f x ≡ g x) → (xs : List A) → least_of f xs ≡ least_of g xs
  unfolding least_of
  least_same h [] = refl
  least_same h (x ∷ xs) = rw (h x, least_same h xs)

  pub least_append : (f : A → ℕ) (xs ys : List A) → least_of f (xs ++ ys) ≡ min (least_of f xs) (least_of f ys)
  unfolding least_of
  least_append f [] ys = sym (min-eq_right (least_most f ys))
  least_append f (x ∷ xs) ys = rw (least_append f xs ys) (sym (min_assoc _ _ _))

  pub least_both : (f g : A → ℕ) (xs : List A) → least_of (λ x. min (f x) (g x)) xs ≡ min (least_of f xs) (least_of g xs)
  unfolding least_of
  least_both f g [] = sym (min-eq_left (le_refl _))
  least_both f g (x ∷ xs) = rw (least_both f g xs) (min_pairs _ _ _ _)

module _ {A B : Type 0} where
  pub least_map : (f : B → ℕ) (g : A → B) (xs : List A) → least_of f (map g xs) ≡ least_of (λ x. f (g x)) xs
  unfolding least_of
  least_map f g [] = refl
  least_map f g (x ∷ xs) = rw (least_map f g xs)

  pub least_each : (f : B → ℕ) (g : A → List B) (xs : List A) → least_of f (each g xs) ≡ least_of (λ x. least_of f (g x)) xs
  unfolding least_of
  least_each f g [] = refl
  least_each f g (x ∷ xs) = least_append f (g x) (each g xs) ∙ ap (min (least_of f (g x))) (least_each f g xs)
