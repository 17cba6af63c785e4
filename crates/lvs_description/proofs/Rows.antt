-- A row of elements: how long it is, what stands in it by type, and that a row that was laid out by a container's order is in order exactly
-- where each inside is well formed. Assumes nothing.
use mathlib.Core.Path.{◌≡◌, refl, sym, ap, ◌∙◌}
use mathlib.Core.Bool.{Bool, true, false, ◌&&◌, not, cond, false≢true}
use mathlib.Core.List.{List, [], ◌∷◌, ◌++◌, map, map-append}
use mathlib.Core.Option.{none, some}
use Prim.Native.Nat.{ℕ, ◌+◌, ◌≤◌, ◌<◌, ◌^◌}
use native.Mathlib.Omega.{arith}
use borrow.Author.Tests.{eqb-true, eq-eqb}
use lib.Dec.{eqb}
use lib.ListN.{length}
use Rattle.tlv.specs.Element.{Element, done, nexts, type_in_range, element_bytes, encode, InRange, Each}
use Rattle.tlv.specs.Fields.{inside_of}
use Rattle.tlv.specs.Lists.{each, all, member}
use Rattle.tlv.proofs.Gathered.{all_append}
use Rattle.tlv.proofs.Sizes.{length-encode, length-element_bytes, number_bytes_mono, all_in_range}
use Rattle.lvs_spec.specs.Grammar.{Kind, Known, Item, Meaning, meaning, step, final, the, maybe, many, optional, critical, known}
use Rattle.lvs_spec.specs.WellFormed.{inside_ok, in_order}
use Rattle.lvs_spec.proofs.Grammar.{both, neither, known_in_range, known_next, goes_on}
use Rattle.lvs_spec.proofs.Lists.{clash, each_append}
use Rattle.lvs_description.specs.Format.{Format, holds}

-- bytes whose length can be written
abbrev pub Short : List ℕ → Type 0
Short b = length b < 2 ^ 64

-- ---- tests

clear : (x : Bool) → not x ≡ true → x ≡ false
clear true p = sym p
clear false p = refl

-- no type of the one list is in the other
abbrev pub apart : List ℕ → List ℕ → Bool
apart xs ys = all (λ x. not (member x ys)) xs

-- nor of the other in the one
abbrev pub disjoint : List ℕ → List ℕ → Bool
disjoint xs ys = apart xs ys && apart ys xs

-- so a type of the one is none of the other
pub not_member : (xs ys : List ℕ) → apart xs ys ≡ true → (t : ℕ) → member t xs ≡ true → member t ys ≡ false
not_member [] ys d t h = absurd (false≢true h)
not_member (x ∷ xs) ys d t h = go (eqb t x) refl (both (not (member x ys)) (apart xs ys) d) (not_member xs ys)
  where
    go : (a : Bool) → eqb t x ≡ a → (not (member x ys) ≡ true) × (apart xs ys ≡ true)
        → (apart xs ys ≡ true → (s : ℕ) → member s xs ≡ true → member s ys ≡ false) → member t ys ≡ false
    go true p b rec = rw (eqb-true t x p) (clear (member x ys) b.0)
    go false p b rec = rec b.1 t (rw p at h)

-- ---- elements one behind the other

-- their bytes add up
pub encode_append : (xs ys : List Element) → length (encode (xs ++ ys)) ≡ length (encode xs) + length (encode ys)
unfolding encode
encode_append [] ys = omega arith
encode_append (x ∷ xs) ys = omega (arith, length-encode x (xs ++ ys), length-encode x xs, encode_append xs ys)

-- and are short in each part where they are in the whole
pub short_left : (xs ys : List Element) → Short (encode (xs ++ ys)) → Short (encode xs)
short_left xs ys h = omega (arith, encode_append xs ys)

pub short_right : (xs ys : List Element) → Short (encode (xs ++ ys)) → Short (encode ys)
short_right xs ys h = omega (arith, encode_append xs ys)

module _ {A : Type 0} (g : Format A) where
  -- a test that says of each value whether it is well formed says so of all
  pub all_formed : (p : Element → Bool) → ((a : A) → Short (encode (g.elements a)) → all p (g.elements a) ≡ g.formed a)
      → (vs : List A) → Short (encode (each g.elements vs)) → all p (each g.elements vs) ≡ all g.formed vs
  all_formed p one [] h = refl
  all_formed p one (v ∷ vs) h =
      let x = g.elements v in
      let xs = each g.elements vs in
      rw (all_append p x xs, one v (short_left x xs h), all_formed p one vs (short_right x xs h))

  -- a reader that gets each value back gets all back
  pub all_back : (from : Element → List A) → ((a : A) → Short (encode (g.elements a)) → g.formed a ≡ true → each from (g.elements a) ≡ a ∷ [])
      → (vs : List A) → Short (encode (each g.elements vs)) → all g.formed vs ≡ true → each from (each g.elements vs) ≡ vs
  all_back from one [] h ok = refl
  all_back from one (v ∷ vs) h ok =
      let x = g.elements v in
      let xs = each g.elements vs in
      let b = both (g.formed v) (all g.formed vs) ok in
      rw (each_append from x xs, one v (short_left x xs h) b.0, all_back from one vs (short_right x xs h) b.1)

-- what is done to all that g gives is done to what it gives for each
pub map_each : {A B C : Type 0} (f : B → C) (g : A → List B) (xs : List A) → map f (each g xs) ≡ each (λ x. map f (g x)) xs
map_each f g [] = refl
map_each f g (x ∷ xs) = map-append f (g x) (each g xs) ∙ ap (λ (l : List _). map f (g x) ++ l) (map_each f g xs)

-- an element with a shorter inside is no longer
pub holds_le : (t : ℕ) (x y : List ℕ) → length x ≤ length y → length (encode (holds t x)) ≤ length (element_bytes (record { type = t; inside = y }))
unfolding encode
holds_le t x y h =
    let m = number_bytes_mono (length x) (length y) h in
    let a = length-element_bytes (record { type = t; inside = x }) in
    let b = length-element_bytes (record { type = t; inside = y }) in
    omega (arith, length-encode (record { type = t; inside = x }) [])

-- an inside is short where its element is
pub inside_short : (t : ℕ) (x : List ℕ) → Short (encode (holds t x)) → Short x
unfolding encode
inside_short t x h = omega (arith, length-encode (record { type = t; inside = x }) [], length-element_bytes (record { type = t; inside = x }))

-- ---- the bytes of the elements of some types

-- what a container's elements hold, by their type
abbrev pub Found : Type 0
Found = ℕ → List (List ℕ)

abbrev pub found : List Element → Found
found es t = each (inside_of t) es

-- the number of bytes of the elements of type t with these insides; and of all that are of some types
abbrev pub heavy : ℕ → List (List ℕ) → ℕ
heavy t [] = 0
heavy t (x ∷ xs) = length (element_bytes (record { type = t; inside = x })) + heavy t xs

abbrev pub weight : List ℕ → Found → ℕ
weight [] F = 0
weight (t ∷ ts) F = heavy t (F t) + weight ts F

-- it adds up
pub weight_append : (ts us : List ℕ) (F : Found) → weight (ts ++ us) F ≡ weight ts F + weight us F
weight_append [] us F = omega arith
weight_append (t ∷ ts) us F = omega (arith, weight_append ts us F)

-- no type twice
abbrev pub distinct : List ℕ → Bool
distinct [] = true
distinct (t ∷ ts) = not (member t ts) && distinct ts

-- what one element adds to it
abbrev share : List ℕ → Element → ℕ
share [] e = 0
share (t ∷ ts) e = cond (eqb t e.type) (length (element_bytes e)) 0 + share ts e

one_added : (a h s f : ℕ) {w b : ℕ} → a ≡ b → w ≡ s + f → a + h + w ≡ b + s + (h + f)
one_added a h s f d e = omega (arith, d, e)

of_type : {t : ℕ} (e : Element) → t ≡ e.type → length (element_bytes (record { type = t; inside = e.inside })) ≡ length (element_bytes e)
of_type e h = ap (λ k. length (element_bytes (record { type = k; inside = e.inside }))) h

weight_next : (ts : List ℕ) (e : Element) (es : List Element) → weight ts (found (e ∷ es)) ≡ share ts e + weight ts (found es)
unfolding inside_of
weight_next [] e es = refl
weight_next (t ∷ ts) e es = go (eqb t e.type) refl (weight_next ts e es)
  where
    go : (a : Bool) → eqb t e.type ≡ a → weight ts (found (e ∷ es)) ≡ share ts e + weight ts (found es)
        → weight (t ∷ ts) (found (e ∷ es)) ≡ share (t ∷ ts) e + weight (t ∷ ts) (found es)
    go true p rec =
        rw p (one_added _ (heavy t (each (inside_of t) es)) (share ts e) (weight ts (found es)) (of_type e (eqb-true t e.type p)) rec)
    go false p rec = rw p (omega arith)

share_none : (ts : List ℕ) (e : Element) → member e.type ts ≡ false → share ts e ≡ 0
share_none [] e h = refl
share_none (t ∷ ts) e h = go (eqb t e.type) refl (share_none ts e)
  where
    go : (a : Bool) → eqb t e.type ≡ a → (member e.type ts ≡ false → share ts e ≡ 0) → share (t ∷ ts) e ≡ 0
    go true p rec = absurd (false≢true (sym (neither (eqb e.type t) (member e.type ts) h).0 ∙ eq-eqb e.type t (sym (eqb-true t e.type p))))
    go false p rec = rw p (omega (arith, rec (neither (eqb e.type t) (member e.type ts) h).1))

share_le : (ts : List ℕ) (e : Element) → distinct ts ≡ true → share ts e ≤ length (element_bytes e)
share_le [] e d = omega arith
share_le (t ∷ ts) e d = go (eqb t e.type) refl (both (not (member t ts)) (distinct ts) d) (share_le ts e)
  where
    go : (a : Bool) → eqb t e.type ≡ a → (not (member t ts) ≡ true) × (distinct ts ≡ true) → (distinct ts ≡ true → share ts e ≤ length (element_bytes e))
        → share (t ∷ ts) e ≤ length (element_bytes e)
    go true p b rec = rw p (omega (arith, share_none ts e (rw (← (eqb-true t e.type p)) (clear (member t ts) b.0))))
    go false p b rec = rw p (omega (arith, rec b.1))

-- where no type is named twice it is at most the number of all bytes
pub weight_le : (ts : List ℕ) (es : List Element) → distinct ts ≡ true → weight ts (found es) ≤ length (encode es)
unfolding encode
weight_le ts [] d = nothing ts
  where
    nothing : (us : List ℕ) → weight us (found []) ≤ 0
    nothing [] = omega arith
    nothing (u ∷ us) = omega (arith, nothing us)
weight_le ts (e ∷ es) d = omega (arith, weight_next ts e es, share_le ts e d, weight_le ts es d, length-encode e es)

-- ---- rows that were laid out by an order

-- elements of known types that the items take one by one, with nothing owed at the end; whatever they hold
pub data Laid : List Item → List Element → Type 0 where
  end : {items : List Item} → final items ≡ true → Laid items []
  put : {items left : List Item} {e : Element} {es : List Element} (w : Known) → meaning e.type ≡ known w → step items e.type ≡ some left
      → Laid left es → Laid items (e ∷ es)

-- they have an encoding
pub laid_ranged : {items : List Item} {es : List Element} → Laid items es → Short (encode es) → Each InRange es
laid_ranged L h = all_in_range _ (typed L) h
  where
    typed : {items : List Item} {es : List Element} → Laid items es → Each (λ e. type_in_range e.type ≡ true) es
    typed (end f) = tt
    typed (put {e = e} w m s L) = (known_in_range e.type w m, typed L)

-- an item that the row may do without is passed over where no later item has its type
module _ (t : ℕ) (items : List Item) (n : step items t ≡ none) where
  other : (s : ℕ) (left : List Item) → step items s ≡ some left → eqb s t ≡ false
  other s left p = go (eqb s t) refl
    where
      go : (a : Bool) → eqb s t ≡ a → eqb s t ≡ false
      go true q = let e = eqb-true s t q in clash (cc)
      go false q = q

  past : (item : Item) → final (item ∷ items) ≡ final items → ((s : ℕ) → eqb s t ≡ false → step (item ∷ items) s ≡ step items s)
      → {es : List Element} → Laid items es → Laid (item ∷ items) es
  past item ends steps (end h) = end (ends ∙ h)
  past item ends steps (put {left = left} {e = e} w m s L) = put w m (steps e.type (other e.type left s) ∙ s) L

  pub past_many : {es : List Element} → Laid items es → Laid (many (the t) ∷ items) es
  unfolding step final
  past_many L = past (many (the t)) refl (λ s d. rw (d, step)) L

  pub past_maybe : {es : List Element} → Laid items es → Laid (maybe (the t) ∷ items) es
  unfolding step final
  past_maybe L = past (maybe (the t)) refl (λ s d. rw (d, step)) L

module _ (inner : Kind → List ℕ → Bool) (k : Kind) where
  abbrev pub okay_by : Meaning → List ℕ → Bool
  okay_by optional b = false
  okay_by critical b = false
  okay_by (known w) b = inside_ok inner k w b

  -- an element of a known type with a well-formed inside
  abbrev pub okay : Element → Bool
  okay e = okay_by (meaning e.type) e.inside

  -- a row that was laid out is in order where each of its elements is such a one
  pub laid_order : {items : List Item} {es : List Element} → Laid items es → in_order inner k items (nexts es done) ≡ all okay es
  unfolding in_order goes_on
  laid_order (end h) = h
  laid_order (put {items} {left} {e} {es} w m s L) = known_next inner k items e (nexts es done) w m ∙ rw (s, m, laid_order L)
