-- Lists without repeats, and how long they can be. Assumes nothing.
use Prim.Native.Nat.{ℕ, zero, suc, ◌≤◌, ◌<◌}
use mathlib.Core.Path.{◌≡◌, refl, sym, ap, ◌∙◌, subst}
use mathlib.Core.Logic.{◌≢◌, ◌⊎◌, inl, inr, ⊎_elim}
use mathlib.Core.Bool.{Bool, true, false}
use mathlib.Core.List.Memᴰ
use mathlib.Core.List.{List, [], ◌∷◌, ◌++◌, map, head-eq_of_cons-eq, Memᴰ}
use native.Mathlib.Omega.{arith}
use borrow.Author.Tests.{eqb-true, eqb-false}
use lib.Dec.{eqb}
use lib.ListN.{length}
use Rattle.tlv.specs.Lists.{each, numbered}
use Rattle.lvs_spec.proofs.Lists.{each_from, map-from, numbered_from}

-- the numbers below n
abbrev pub below : ℕ → List ℕ
below zero = []
below (suc n) = n ∷ below n

pub below_length : (n : ℕ) → length (below n) ≡ n
below_length zero = refl
below_length (suc n) = ap suc (below_length n)

pub below_in : (n i : ℕ) → i < n → Memᴰ i (below n)
below_in zero i h = absurd (omega arith)
below_in (suc n) i h = go (eqb i n) refl (below_in n i)
  where
    go : (b : Bool) → eqb i n ≡ b → (i < n → Memᴰ i (below n)) → Memᴰ i (n ∷ below n)
    go true e rec = Memᴰ.head (eqb-true i n e)
    go false e rec = let ne : i ≢ n = eqb-false i n e in Memᴰ.tail (rec (omega arith))

-- ---- no entry twice

module _ {A : Type 0} where
  abbrev pub Distinct : List A → Type 0
  Distinct [] = Unit {0}
  Distinct (x ∷ xs) = (¬ Memᴰ x xs) × Distinct xs

  distinct_append : (xs ys : List A) → Distinct xs → Distinct ys → ((x : A) → Memᴰ x xs → ¬ Memᴰ x ys) → Distinct (xs ++ ys)
  distinct_append [] ys a b h = b
  distinct_append (x ∷ xs) ys a b h = (
    λ i. ⊎_elim a.0 (h x (Memᴰ.head refl)) (Memᴰ.append_cases xs i),
    distinct_append xs ys a.1 b λ z i. h z (Memᴰ.tail i),
  )

pub distinct_map : {A B : Type 0} (f : A → B) → ((x y : A) → f x ≡ f y → x ≡ y) → (xs : List A) → Distinct xs → Distinct (map f xs)
distinct_map f one [] d = tt
distinct_map f one (x ∷ xs) d = (λ i. let (y, j, e) = map-from f xs i in d.0 (Memᴰ.cast (one x y e) j), distinct_map f one xs d.1)

-- what f gives for each entry begins with the entry's number
module _ {A : Type 0} (f : ℕ × A → List (List ℕ)) (form : (e : ℕ × A) (y : List ℕ) → Memᴰ y (f e) → (q : List ℕ) × (y ≡ e.0 ∷ q)) where
  begins : (k : ℕ) (xs : List A) {y : List ℕ} → Memᴰ y (each f (numbered k xs)) → (j : ℕ) × (q : List ℕ) × (k ≤ j) × (y ≡ j ∷ q)
  begins k xs i =
      let (e, a, b) = each_from f (numbered k xs) i in
      let (q, s) = form e _ b in
      let (j, l, _) = numbered_from k xs a in
      (e.0, q, omega (arith, l), s)

  pub distinct_each : ((e : ℕ × A) → Distinct (f e)) → (k : ℕ) (xs : List A) → Distinct (each f (numbered k xs))
  distinct_each d k [] = tt
  distinct_each d k (x ∷ xs) =
      distinct_append (f (k, x)) (each f (numbered (suc k) xs)) (d (k, x)) (distinct_each d (suc k) xs) λ y i j.
      let (q, a) = form (k, x) y i in
      let (n, r, l, b) = begins (suc k) xs j in
      let e : k ≡ n = head-eq_of_cons-eq (sym a ∙ b) in
      omega arith

-- ---- how many

-- a member taken out
without : {A : Type 0} {y : A} {ys : List A} → Memᴰ y ys
    → (zs : List A) × (length ys ≡ suc (length zs)) × ((z : A) → Memᴰ z ys → (z ≡ y) ⊎ Memᴰ z zs)
without {A} {y} (Memᴰ.head {x = x} {xs = xs} e) = (xs, refl, λ z i. ⊎_elim (λ f. inl (f ∙ sym e)) inr (Memᴰ.cases_cons i))
without {A} {y} (Memᴰ.tail {x = x} {xs = xs} i) =
    let (zs, l, h) = without i in
    (x ∷ zs, ap suc l, λ z j. ⊎_elim (λ f. inr (Memᴰ.head f)) (λ k. ⊎_elim inl (λ k. inr (Memᴰ.tail k)) (h z k)) (Memᴰ.cases_cons j))

-- where each entry of xs has an entry of ys, and no two the same, there are at most as many
pub pigeonhole : {A B : Type 0} (R : A → B → Type 0) → ((x x' : A) (y : B) → R x y → R x' y → x ≡ x') → (xs : List A) (ys : List B) → Distinct xs
    → ((x : A) → Memᴰ x xs → (y : B) × Memᴰ y ys × R x y) → length xs ≤ length ys
pigeonhole R one [] ys d h = omega arith
pigeonhole {A} {B} R one (x ∷ xs) ys d h =
    let (y, i, r) = h x (Memᴰ.head refl) in
    let (zs, l, w) = without i in
    let rest : length xs ≤ length zs = pigeonhole R one xs zs d.1 λ x' j. go y r zs w x' j (h x' (Memᴰ.tail j)) in
    omega (arith, l, rest)
  where
    go : (y : B) → R x y → (zs : List B) → ((z : B) → Memᴰ z ys → (z ≡ y) ⊎ Memᴰ z zs) → (x' : A) → Memᴰ x' xs
        → (y' : B) × Memᴰ y' ys × R x' y' → (y' : B) × Memᴰ y' zs × R x' y'
    go y r zs w x' j (y', k, r') =
        ⊎_elim (λ e. absurd (d.0 (Memᴰ.cast (one x x' y r (subst (R x') e r')) j))) (λ k'. (y', k', r')) (w y' k)
