-- The index of the first in a list that passes a test. Assumes nothing.
use Prim.Native.Nat.{ℕ, ◌+◌, ◌<◌}
use mathlib.Core.Path.{◌≡◌, refl, sym, ap, ◌∙◌}
use mathlib.Core.Logic.{◌⊎◌, inl, inr}
use mathlib.Core.Bool.{Bool, true, false}
use mathlib.Core.List.Memᴰ
use mathlib.Core.List.{List, [], ◌∷◌, ◌++◌, map, Memᴰ}
use mathlib.Core.Option.{none, some, some-injective}
use native.Mathlib.Omega.{arith}
use lib.ListN.{length, length-append}
use Rattle.tlv.specs.Lists.{first_index}
use Rattle.lvs_spec.proofs.Lists.{clash}

module _ {A : Type 0} (f : A → Bool) where
  module _ (i : ℕ) {x : A} (xs : List A) where
    pub index_here : f x ≡ true → first_index f i (x ∷ xs) ≡ some i
    unfolding first_index
    index_here e = rw (e, first_index)

    pub index_later : f x ≡ false → first_index f i (x ∷ xs) ≡ first_index f (i + 1) xs
    unfolding first_index
    index_later e = rw (e, first_index)

  -- ---- there is one

  -- the entries before it do not pass, and it does
  pub record FirstAt (i : ℕ) (xs : List A) (j : ℕ) : Type 0 where
    pub before : List A
    pub it : A
    pub behind : List A
    pub is : xs ≡ before ++ (it ∷ behind)
    pub index : i + length before ≡ j
    pub earlier : first_index f i before ≡ none
    pub passes : f it ≡ true

  pub index_first : (i : ℕ) (xs : List A) {j : ℕ} → first_index f i xs ≡ some j → FirstAt i xs j
  unfolding first_index
  index_first i [] h = clash (cc)
  index_first i (x ∷ xs) {j} h = go (f x) refl (λ h'. index_first (i + 1) xs h')
    where
      go : (t : Bool) → f x ≡ t → (first_index f (i + 1) xs ≡ some j → FirstAt (i + 1) xs j) → FirstAt i (x ∷ xs) j
      go true e rec =
          let q : i ≡ j = some-injective _ _ (sym (index_here i xs e) ∙ h) in
          record { before = []; it = x; behind = xs; is = refl; index = omega arith; earlier = refl; passes = e }
      go false e rec =
          let r = rec (sym (index_later i xs e) ∙ h) in
          record {
            before = x ∷ r.before;
            it = r.it;
            behind = r.behind;
            is = ap (λ (l : List A). x ∷ l) r.is;
            index = omega (arith, r.index);
            earlier = index_later i r.before e ∙ r.earlier;
            passes = r.passes;
          }

  pub first_index_lem : (i : ℕ) (before : List A) {x : A} (behind : List A) → first_index f i before ≡ none → f x ≡ true
      → first_index f i (before ++ (x ∷ behind)) ≡ some (i + length before)
  first_index_lem i [] behind h e = index_here i behind e ∙ ap some (omega arith)
  first_index_lem i (y ∷ ys) {x} behind h e = go (f y) refl (λ h'. first_index_lem (i + 1) ys behind h' e)
    where
      go : (t : Bool) → f y ≡ t → (first_index f (i + 1) ys ≡ none → first_index f (i + 1) (ys ++ (x ∷ behind)) ≡ some (i + 1 + length ys))
          → first_index f i (y ∷ (ys ++ (x ∷ behind))) ≡ some (i + length (y ∷ ys))
      go true p rec = let z = sym (index_here i ys p) ∙ h in clash (cc)
      go false p rec = index_later i _ p ∙ rec (sym (index_later i ys p) ∙ h) ∙ ap some (omega arith)

  -- it is below the number of entries
  pub index_below : (i : ℕ) (xs : List A) {j : ℕ} → first_index f i xs ≡ some j → j < i + length xs
  index_below i xs h =
      let r = index_first i xs h in
      omega (arith, r.index, ap length r.is, length-append r.before (r.it ∷ r.behind))

  -- ---- there is none

  pub index_none : (i : ℕ) (xs : List A) → first_index f i xs ≡ none → (x : A) → Memᴰ x xs → f x ≡ false
  index_none i [] h x m = absurd (Memᴰ.not-nil m)
  index_none i (y ∷ ys) h x m = go (f y) refl (Memᴰ.cases_cons m) (λ h' m'. index_none (i + 1) ys h' x m')
    where
      go : (t : Bool) → f y ≡ t → (x ≡ y) ⊎ Memᴰ x ys → (first_index f (i + 1) ys ≡ none → Memᴰ x ys → f x ≡ false) → f x ≡ false
      go true p m rec = let z = sym (index_here i ys p) ∙ h in clash (cc)
      go false p (inl e) rec = ap f e ∙ p
      go false p (inr m) rec = rec (sym (index_later i ys p) ∙ h) m

  pub none_index : (i : ℕ) (xs : List A) → ((x : A) → Memᴰ x xs → f x ≡ false) → first_index f i xs ≡ none
  unfolding first_index
  none_index i [] h = refl
  none_index i (x ∷ xs) h = index_later i xs (h x (Memᴰ.head refl)) ∙ none_index (i + 1) xs (λ y m. h y (Memᴰ.tail m))

-- the test of what stands for an entry
pub index_map : {A B : Type 0} (f : B → Bool) (h : A → B) (i : ℕ) (xs : List A) → first_index f i (map h xs) ≡ first_index (λ x. f (h x)) i xs
unfolding first_index
index_map f h i [] = refl
index_map {A} f h i (x ∷ xs) = go (f (h x)) refl (index_map f h (i + 1) xs)
  where
    go : (t : Bool) → f (h x) ≡ t → first_index f (i + 1) (map h xs) ≡ first_index (λ (y : A). f (h y)) (i + 1) xs
        → first_index f i (h x ∷ map h xs) ≡ first_index (λ (y : A). f (h y)) i (x ∷ xs)
    go true e ih = index_here f i (map h xs) e ∙ sym (index_here (λ (y : A). f (h y)) i xs e)
    go false e ih = index_later f i (map h xs) e ∙ ih ∙ sym (index_later (λ (y : A). f (h y)) i xs e)
