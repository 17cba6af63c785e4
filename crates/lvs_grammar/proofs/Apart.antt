-- A type that is none of those that a `match` names: it is unknown, or no item of an order. Assumes nothing.
use Prim.Native.Nat.{ℕ, zero, suc}
use mathlib.Core.Path.{◌≡◌, refl, sym}
use mathlib.Core.Bool.{Bool, true, false, ◌||◌, false≢true}
use mathlib.Core.List.{List, [], ◌∷◌, ◌++◌}
use mathlib.Core.Option.{none}
use borrow.Author.Tests.{ne_eqb}
use lib.Dec.{eqb}
use lib.ListN.{drop}
use Rattle.tlv.specs.Lists.{member}
use Rattle.lvs_spec.specs.Grammar.{Kind, Known, Item, once, maybe, many, known_types, lookup, unknown, meaning, order, step}

-- t is none of these, and A: as the rest of a `match` has it
abbrev pub Apart : Type 0 → List ℕ → ℕ → Type 0
Apart A [] t = A
Apart A (x ∷ xs) t = Apart (A × (t ≡ x → ⊥)) xs t

none_of : (A : Type 0) (xs : List ℕ) (t : ℕ) → Apart A xs t → A × (member t xs ≡ false)
none_of A [] t h = (h, refl)
none_of A (x ∷ xs) t h = let r = none_of (A × (t ≡ x → ⊥)) xs t h in (r.0.0, rw (ne_eqb _ _ r.0.1) r.1)

neither : (a b : Bool) → (a || b) ≡ false → (a ≡ false) × (b ≡ false)
neither true b h = absurd (false≢true (sym h))
neither false b h = (refl, h)

-- ---- unknown types

abbrev pub types_of : List (ℕ × Known) → List ℕ
types_of [] = []
types_of (x ∷ xs) = x.0 ∷ types_of xs

unlisted : (xs : List (ℕ × Known)) (t : ℕ) → member t (types_of xs) ≡ false → lookup xs t ≡ unknown t
unfolding lookup
unlisted [] t h = refl
unlisted (x ∷ xs) t h = let n = neither (eqb t x.0) _ h in rw (n.0, lookup) (unlisted xs t n.1)

pub unknown_type : (t : ℕ) → Apart (Unit {0}) (types_of known_types) t → unknown t ≡ meaning t
unfolding meaning
unknown_type t h = sym (unlisted known_types t (none_of (Unit {0}) (types_of known_types) t h).1)

-- ---- types that are no item

-- the types of these items, in their order
abbrev pub types_in : List Item → List ℕ
types_in [] = []
types_in (once ts ∷ items) = ts ++ types_in items
types_in (maybe ts ∷ items) = ts ++ types_in items
types_in (many ts ∷ items) = ts ++ types_in items

either_list : (t : ℕ) (xs ys : List ℕ) → member t (xs ++ ys) ≡ false → (member t xs ≡ false) × (member t ys ≡ false)
either_list t [] ys h = (refl, h)
either_list t (x ∷ xs) ys h = let n = neither (eqb t x) _ h in let r = either_list t xs ys n.1 in (rw n.0 r.0, r.1)

no_step : (items : List Item) (t : ℕ) → member t (types_in items) ≡ false → step items t ≡ none
unfolding step
no_step [] t h = refl
no_step (once ts ∷ items) t h = rw (either_list t ts _ h).0
no_step (maybe ts ∷ items) t h = let n = either_list t ts _ h in rw (n.0, step) (no_step items t n.1)
no_step (many ts ∷ items) t h = let n = either_list t ts _ h in rw (n.0, step) (no_step items t n.1)

fewer : (q : ℕ) (items : List Item) (t : ℕ) → member t (types_in items) ≡ false → member t (types_in (drop q items)) ≡ false
fewer zero items t h = h
fewer (suc q) [] t h = h
fewer (suc q) (once ts ∷ items) t h = fewer q items t (either_list t ts _ h).1
fewer (suc q) (maybe ts ∷ items) t h = fewer q items t (either_list t ts _ h).1
fewer (suc q) (many ts ∷ items) t h = fewer q items t (either_list t ts _ h).1

pub refused : (k : Kind) (q t : ℕ) → Apart (Unit {0}) (types_in (order k)) t → none ≡ step (drop q (order k)) t
refused k q t h = sym (no_step (drop q (order k)) t (fewer q (order k) t (none_of (Unit {0}) (types_in (order k)) t h).1))
