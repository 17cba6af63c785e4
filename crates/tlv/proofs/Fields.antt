-- The elements of a slice one after the other, and what is found in them. Assumes nothing.
use mathlib.Core.Path.{◌≡◌, refl, sym, ap}
use mathlib.Core.List.{List, [], ◌∷◌, ◌++◌}
use Prim.Native.Nat.{ℕ, ◌-◌}
use mathlib.Core.Bool.{true}
use lib.ListN.{length, take, drop}
use borrow.Author.Tests.{eq-eqb, ne_eqb}
use Rattle.tlv.specs.Element.{Element, Cuts, done, broken, next, cuts}
use Rattle.tlv.specs.Lists.{each, first_or}
use Rattle.tlv.specs.Fields.{each_cut, inside_of, insides, elements, the_inside}
use Rattle.tlv.specs.Bytes.{big_endian}
use Rattle.tlv.specs.Number.{integer, integer_size}
use Rattle.tlv.specs.Answers.{integer_of}
use Rattle.tlv.specs.declared.Place.{Place}
use Rattle.std.specs.declared.option.Option.TheVariants.{Some}
use Rattle.tlv.proofs.Cuts.{Step}
use Rattle.tlv.proofs.Gathered.{Stop, each_one, each_stop}

-- ---- one step of an iteration

module _ {s : List ℕ} {at : ℕ} where
  pub elements_next : {t start stop : ℕ} {n : Place} → Step s at t start stop n
      → elements (drop at s) ≡ record { type = t; inside = take (stop - start) (drop start s) } ∷ elements (drop n.at s)
  unfolding elements
  elements_next st = each_one (λ e. e ∷ []) st refl

  pub elements_stop : Stop s at → elements (drop at s) ≡ []
  unfolding elements
  elements_stop st = each_stop (λ e. e ∷ []) st

-- ---- all of it

-- what f gives for each element of a list that was cut
listed : {A : Type 0} (f : Element → List A) (c : Cuts) → each_cut f c ≡ each f (each_cut (λ e. e ∷ []) c)
unfolding each_cut
listed f done = refl
listed f broken = refl
listed f (next e rest) = ap (λ l. f e ++ l) (listed f rest)

-- THE LAW OF AN ITERATION: what f gives for each element, from the list of elements
pub each_listed : {A : Type 0} (f : Element → List A) (b : List ℕ) → each_cut f (cuts b) ≡ each f (elements b)
unfolding elements
each_listed f b = listed f (cuts b)

pub insides_listed : (k : ℕ) (b : List ℕ) → insides k b ≡ each (inside_of k) (elements b)
unfolding insides
insides_listed k b = each_listed (inside_of k) b

-- ---- an integer

pub integer_found : (s : List ℕ) (k : ℕ) {r : ℕ} → length s ≡ k → integer_size k ≡ true → r ≡ big_endian s → Some r ≡ integer_of s
unfolding integer_of integer
integer_found s k l q e = rw (l, q) (ap Some e)

-- ---- the first inside of a type

-- of elements that an iteration has left
abbrev pub first_inside : ℕ → List Element → List ℕ
first_inside k es = first_or [] (each (inside_of k) es)

pub inside_listed : (k : ℕ) (b : List ℕ) → the_inside k b ≡ first_inside k (elements b)
unfolding the_inside
inside_listed k b = ap (first_or []) (insides_listed k b)

module _ (k : ℕ) (e : Element) (es : List Element) where
  pub inside_here : e.type ≡ k → first_inside k (e ∷ es) ≡ e.inside
  unfolding inside_of
  inside_here q = rw (eq-eqb k e.type (sym q)) refl

  pub inside_later : (e.type ≡ k → ⊥) → first_inside k (e ∷ es) ≡ first_inside k es
  unfolding inside_of
  inside_later no' = rw (ne_eqb k e.type (λ q. no' (sym q))) refl
