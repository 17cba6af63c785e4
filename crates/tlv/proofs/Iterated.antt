-- What a test of each element comes to, on the list of elements that an iteration goes over. Assumes nothing.
use mathlib.Core.Path.{◌≡◌, refl, sym, ap, ◌∙◌}
use mathlib.Core.Bool.{Bool, true, false, ◌&&◌, ◌||◌, not}
use mathlib.Core.List.{List, [], ◌∷◌, ◌++◌, map}
use Prim.Native.Nat.{ℕ}
use lib.Dec.{eqb}
use borrow.Author.Tests.{eq-eqb, ne_eqb, eqb-true, eqb-false}
use Rattle.std.specs.List.{list_any, list_all}
use Rattle.tlv.specs.Element.{Element}
use Rattle.tlv.specs.Lists.{each, when, any, all}
use Rattle.tlv.specs.Fields.{inside_of, insides, elements}
use Rattle.tlv.proofs.Gathered.{any_append, all_append}
use Rattle.tlv.proofs.Fields.{insides_listed}

pub eqb_sym : (a b : ℕ) → eqb a b ≡ eqb b a
eqb_sym a b = go (eqb b a) refl
  where
    go : (t : Bool) → eqb b a ≡ t → eqb a b ≡ t
    go true e = eq-eqb a b (sym (eqb-true b a e))
    go false e = ne_eqb a b (λ q. eqb-false b a e (sym q))

module _ {A : Type 0} (p : A → Bool) where
  -- f gives any number of entries for each element
  pub any_each : (f : Element → List A) (es : List Element) → any p (each f es) ≡ any (λ e. any p (f e)) es
  any_each f [] = refl
  any_each f (e ∷ es) = any_append p (f e) (each f es) ∙ ap (λ b. any p (f e) || b) (any_each f es)

  pub all_each : (f : Element → List A) (es : List Element) → all p (each f es) ≡ all (λ e. all p (f e)) es
  all_each f [] = refl
  all_each f (e ∷ es) = all_append p (f e) (each f es) ∙ ap (λ b. all p (f e) && b) (all_each f es)

  module _ (g : List ℕ → A) (k : ℕ) where
    any_of : (es : List Element) → any p (map g (each (inside_of k) es)) ≡ any (λ e. eqb e.type k && p (g e.inside)) es
    unfolding inside_of
    any_of [] = refl
    any_of (e ∷ es) = rw (eqb_sym k e.type) (go (any_of es) (eqb e.type k))
      where
        go : {r : Bool} → any p (map g (each (inside_of k) es)) ≡ r → (t : Bool)
            → any p (map g (when t e.inside ++ each (inside_of k) es)) ≡ (t && p (g e.inside)) || r
        go h true = ap (λ b. p (g e.inside) || b) h
        go h false = h

    all_of : (es : List Element) → all p (map g (each (inside_of k) es)) ≡ all (λ e. not (eqb e.type k) || p (g e.inside)) es
    unfolding inside_of
    all_of [] = refl
    all_of (e ∷ es) = rw (eqb_sym k e.type) (go (all_of es) (eqb e.type k))
      where
        go : {r : Bool} → all p (map g (each (inside_of k) es)) ≡ r → (t : Bool)
            → all p (map g (when t e.inside ++ each (inside_of k) es)) ≡ (not t || p (g e.inside)) && r
        go h true = ap (λ b. p (g e.inside) && b) h
        go h false = h

    -- entries read of the insides of one type
    pub any_insides : (b : List ℕ) → any p (map g (insides k b)) ≡ any (λ e. eqb e.type k && p (g e.inside)) (elements b)
    any_insides b = ap (λ l. any p (map g l)) (insides_listed k b) ∙ any_of (elements b)

    pub all_insides : (b : List ℕ) → all p (map g (insides k b)) ≡ all (λ e. not (eqb e.type k) || p (g e.inside)) (elements b)
    all_insides b = ap (λ l. all p (map g l)) (insides_listed k b) ∙ all_of (elements b)

-- the library's words for the same
module _ {A : Type 0} (p : A → Bool) where
  pub any_same : (xs : List A) → list_any p xs ≡ any p xs
  any_same [] = refl
  any_same (x ∷ xs) = ap (λ b. p x || b) (any_same xs)

  pub all_same : (xs : List A) → list_all p xs ≡ all p xs
  all_same [] = refl
  all_same (x ∷ xs) = ap (λ b. p x && b) (all_same xs)
