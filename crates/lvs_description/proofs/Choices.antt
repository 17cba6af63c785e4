-- The containers whose items allow several types: a UserFnArg holds one Value or Tag, a ConstraintOption any number of Values, Tags and calls.
-- A choice is written as one element, whose type says which it is; it is made of cells. The laws are those of Parts. Assumes nothing.
use mathlib.Core.Path.{◌≡◌, refl, sym, ap, subst, ◌∙◌}
use mathlib.Core.Bool.{Bool, true, false, ◌||◌, false≢true, and-true}
use mathlib.Core.List.{List, [], ◌∷◌, ◌++◌, append-nil}
use mathlib.Core.Option.{none, some}
use Prim.Native.Nat.{ℕ, suc, ◌≤◌}
use native.Mathlib.Omega.{arith}
use borrow.Author.Tests.{eqb-true}
use lib.Dec.{eqb}
use lib.ListN.{length}
use Rattle.tlv.specs.Element.{Element, cuts, element_bytes, encode, Each}
use Rattle.tlv.specs.Fields.{each_cut}
use Rattle.tlv.specs.Lists.{each, all, member, first_or}
use Rattle.tlv.proofs.Sizes.{length-encode}
use Rattle.lvs_spec.specs.Grammar as grammar
use Rattle.lvs_spec.specs.Grammar.{Kind, Known, Item, meaning, order, step, final, once, optional, known}
use Rattle.lvs_spec.specs.WellFormed.{inside_ok, well_formed_by}
use Rattle.lvs_spec.proofs.Grammar.{each_cut_nexts, Ordered, stop, skip, take}
use Rattle.lvs_spec.proofs.Bare.{Small}
use Rattle.lvs_spec.proofs.Lists.{clash, guard_from}
use Rattle.lvs_description.specs.Format.{Format, holds, many}
use Rattle.lvs_description.proofs.Rows.{Short, all_formed, all_back, encode_append, inside_short, okay, Laid, end, put}
use Rattle.lvs_description.proofs.Given.{Stands, fine_of}
use Rattle.lvs_description.proofs.Parts.{Kept, Cell, cell_le, Container, by_elements}

module _ (inner : Kind → List ℕ → Bool) (k : Kind) {A : Type 0} (ts : List ℕ) (g : Format A) (from : Element → List A) where
  -- a is written as one element of one of the types, and `from` reads it off that element
  pub record Written (a : A) : Type 0 where
    pub type : ℕ
    pub what : Known
    pub inside : List ℕ
    pub elements_is : g.elements a ≡ holds type inside
    pub known_is : meaning type ≡ known what
    pub listed : member type ts ≡ true
    pub formed_is : Short inside → inside_ok inner k what inside ≡ g.formed a
    pub back : Short inside → g.formed a ≡ true → from (record { type = type; inside = inside }) ≡ a ∷ []

  -- what `from` reads off an element
  pub record Read (e : Element) : Type 0 where
    pub value : A
    pub is : from e ≡ value ∷ []
    pub kept : Kept g value (length (element_bytes e))

  -- the values that `as_one` makes are written in a type of their own
  pub record Alternative {B : Type 0} (t : ℕ) (as_one : B → A) : Type 0 where
    pub written : (b : B) → Written (as_one b)
    pub read : (e : Element) → Stands inner k e → e.type ≡ t → Read e

  -- an element of one of these types is read
  pub record Reads (us : List ℕ) : Type 0 where
    pub one : (e : Element) → Stands inner k e → member e.type us ≡ true → Read e

  -- each value is written as one of the types, and each of the types is read as a value
  pub record Choice : Type 0 where
    pub written : (a : A) → Written a
    pub skips : (e : Element) → meaning e.type ≡ optional → from e ≡ []
    pub reads : Reads ts

module _ {inner : Kind → List ℕ → Bool} {k : Kind} {A : Type 0} {ts : List ℕ} {g : Format A} {from : Element → List A} where
  -- ---- choices made of cells

  -- a cell
  pub alternative : {B : Type 0} {t : ℕ} {c : Format B} {of : List ℕ → B} → Cell inner k t c of → (as_one : B → A)
      → ((b : B) → g.elements (as_one b) ≡ c.elements b) → ((b : B) → g.formed (as_one b) ≡ c.formed b)
      → ((x : List ℕ) → from (record { type = t; inside = x }) ≡ as_one (of x) ∷ []) → member t ts ≡ true → Alternative inner k ts g from t as_one
  alternative {B} {t} {c} {of} C as_one same-elements same_formed from_is m = record { written = written; read = read }
    where
      written : (b : B) → Written inner k ts g from (as_one b)
      written b =
          record {
            type = t;
            what = C.what;
            inside = C.inside b;
            elements_is = same-elements b ∙ C.elements_is b;
            known_is = C.known_is;
            listed = m;
            formed_is = λ h. C.formed_is b h ∙ sym (same_formed b);
            back = λ h ok. from_is (C.inside b) ∙ ap (λ x. as_one x ∷ []) (C.back b h (sym (same_formed b) ∙ ok));
          }

      read : (e : Element) → Stands inner k e → e.type ≡ t → Read inner k ts g from e
      read e S d =
          let x = e.inside in
          let F = fine_of inner k t C.what C.known_is e S (sym d) in
          let size : ℕ = length (encode (c.elements (of x))) in
          let shorter = subst (λ (u : ℕ). size ≤ length (element_bytes (record { type = u; inside = x }))) (sym d) (cell_le C x F) in
          record {
            value = as_one (of x);
            is = (λ j. from (record { type = d j; inside = x })) ∙ from_is x;
            kept = (same_formed (of x) ∙ (C.kept x F).0, rw (same-elements (of x)) shorter);
          }

  -- no type, or one type and then others
  pub no_more : Reads inner k ts g from []
  no_more = record { one = λ e S m. absurd (false≢true m) }

  pub or_else : {B : Type 0} {t : ℕ} {as_one : B → A} {us : List ℕ} → Alternative inner k ts g from t as_one
      → Reads inner k ts g from us → Reads inner k ts g from (t ∷ us)
  or_else {t = t} {us = us} X R = record { one = λ e S m. go e S (eqb e.type t) refl m }
    where
      go : (e : Element) → Stands inner k e → (x : Bool) → eqb e.type t ≡ x → (x || member e.type us) ≡ true → Read inner k ts g from e
      go e S true p h = X.read e S (eqb-true e.type t p)
      go e S false p h = R.one e S h

  -- ---- one choice

  module _ (C : Choice inner k ts g from) where
    choice_okay : (a : A) → Short (encode (g.elements a)) → all (okay inner k) (g.elements a) ≡ g.formed a
    choice_okay a h =
        let W = C.written a in
        rw (W.elements_is, W.known_is)
        (and-true (inside_ok inner k W.what W.inside) ∙ W.formed_is (inside_short W.type W.inside (rw W.elements_is at h)))

    choice_back : (a : A) → Short (encode (g.elements a)) → g.formed a ≡ true → each from (g.elements a) ≡ a ∷ []
    choice_back a h ok =
        let W = C.written a in
        rw (W.elements_is, W.back (inside_short W.type W.inside (rw W.elements_is at h)) ok)

    choice_laid : (items left : List Item) → ((t : ℕ) → member t ts ≡ true → step items t ≡ some left) → (a : A) {es : List Element} → Laid left es
        → Laid items (g.elements a ++ es)
    choice_laid items left s a L = let W = C.written a in rw W.elements_is (put W.what W.known_is (s W.type W.listed) L)

    -- the first of elements in order
    first_kept : (d : A) {items : List Item} → items ≡ once ts ∷ [] → {es : List Element} → Ordered inner k items es → Each Small es
        → Kept g (first_or d (each from es)) (length (encode es))
    unfolding step final
    first_kept d c (stop h) s = absurd (false≢true (rw c at h))
    first_kept d c (skip {items} {e} {es} q o) s =
        let r = first_kept d c o s.1 in
        rw (C.skips e q) (r.0, omega (arith, r.1, length-encode e es))
    first_kept d c (take {items} {left} {e} {es} w q p i o) s =
        let may = (guard_from (member e.type ts) [] (rw c at p)).0 in
        let R = C.reads.one e (record { what = w; known_is = q; ok = i; small = s.0 }) may in
        rw R.is (R.kept.0, omega (arith, R.kept.1, length-encode e es))

    -- all of them
    many_step : (t : ℕ) (left : List Item) → step (grammar.many ts ∷ []) t ≡ some left → (member t ts ≡ true) × (left ≡ grammar.many ts ∷ [])
    unfolding step
    many_step t left p = go (member t ts) refl
      where
        go : (c : Bool) → member t ts ≡ c → (member t ts ≡ true) × (left ≡ grammar.many ts ∷ [])
        go true q = let r : some (grammar.many ts ∷ []) ≡ some left = rw (q, step) at p in (q, cc)
        go false q = let r : none ≡ some left = rw (q, step) at p in clash (cc)

    all_kept : {items : List Item} → items ≡ grammar.many ts ∷ [] → {es : List Element} → Ordered inner k items es → Each Small es
        → Kept (many g) (each from es) (length (encode es))
    unfolding encode
    all_kept c (stop h) s = (refl, omega arith)
    all_kept c (skip {items} {e} {es} q o) s =
        let r = all_kept c o s.1 in
        rw (C.skips e q) (r.0, omega (arith, r.1, length-encode e es))
    all_kept c (take {items} {left} {e} {es} w q p i o) s =
        let m = many_step e.type left (rw c at p) in
        let R = C.reads.one e (record { what = w; known_is = q; ok = i; small = s.0 }) m.0 in
        let r = all_kept m.1 o s.1 in
        let sizes = encode_append (g.elements R.value) (each g.elements (each from es)) in
        rw R.is (rw R.kept.0 r.0, omega (arith, sizes, R.kept.1, r.1, length-encode e es))

-- ---- the two kinds of container

module _ {n : ℕ} {k : Kind} {A : Type 0} {ts : List ℕ} {g : Format A} {from : Element → List A} (C : Choice (well_formed_by n) k ts g from) where
  -- a container that holds one
  pub one_choice : (d : A) (of : List ℕ → A) → ((b : List ℕ) → of b ≡ first_or d (each_cut from (cuts b))) → order k ≡ once ts ∷ [] → Container (suc n) k g of
  unfolding step final
  one_choice d of of_is order_is =
      by_elements (λ es. first_or d (each from es)) of (λ b es c. of_is b ∙ ap (first_or d) (ap (each_cut from) c ∙ each_cut_nexts from es))
      (λ a. rw order_is (rw append-nil at (choice_laid C (once ts ∷ []) [] (λ t m. rw m) a (end refl))))
      (choice_okay C) (λ a h ok. ap (first_or d) (choice_back C a h ok)) (λ es o s. first_kept C d order_is o s)

  -- a container that holds any number
  pub many_choice : (of : List ℕ → List A) → ((b : List ℕ) → of b ≡ each_cut from (cuts b)) → order k ≡ grammar.many ts ∷ [] → Container (suc n) k (many g) of
  unfolding step final
  many_choice of of_is order_is =
      by_elements (each from) of (λ b es c. of_is b ∙ ap (each_cut from) c ∙ each_cut_nexts from es) (λ vs. rw order_is (laid vs))
      (all_formed g (okay (well_formed_by n) k) (choice_okay C)) (all_back g from (choice_back C)) (λ es o s. all_kept C order_is o s)
    where
      items : List Item
      items = grammar.many ts ∷ []

      laid : (vs : List A) → Laid items (each g.elements vs)
      laid [] = end refl
      laid (v ∷ vs) = choice_laid C items items (λ t m. rw (m, step)) v (laid vs)
