-- The laws of a container's parts. A cell is a format that is written as one element; a part is one that a container's order has items for.
-- Cells make parts, parts one behind the other make the whole container. Of each it is said what is written and what is read: the bytes are
-- well formed where the format says so, are then read back, and what is read off well-formed bytes is written no longer. Assumes nothing.
use mathlib.Core.Path.{◌≡◌, refl, sym, ap, subst, ◌∙◌}
use mathlib.Core.Bool.{Bool, true, false, and-true}
use mathlib.Core.List.{List, [], ◌∷◌, ◌++◌, map, append-nil, append_assoc}
use mathlib.Core.Option.{Option, none, some}
use Prim.Native.Nat.{ℕ, suc, ◌+◌, ◌≤◌}
use native.Mathlib.Omega.{arith}
use borrow.Author.Tests.{eq-eqb}
use lib.Dec.{eqb}
use lib.ListN.{length}
use Rattle.tlv.specs.Element.{Element, cuts, done, nexts, element_bytes, encode, Each}
use Rattle.tlv.specs.Fields.{each_cut, inside_of, insides}
use Rattle.tlv.specs.Lists.{each, all, member, first_or, first as first_of}
use Rattle.tlv.proofs.Gathered.{all_append}
use Rattle.tlv.proofs.RoundTrip.{cuts_encoded}
use Rattle.lvs_spec.specs.Grammar as grammar
use Rattle.lvs_spec.specs.Grammar.{Kind, Known, Item, meaning, order, step, final, the, once, known}
use Rattle.lvs_spec.specs.WellFormed.{inside_ok, well_formed_by}
use Rattle.lvs_spec.proofs.Grammar.{both, neither, each_cut_nexts, Ordered}
use Rattle.lvs_spec.proofs.Bare.{Small, Good, held}
use Rattle.tlv.proofs.Gathered.{any_append}
use Rattle.lvs_spec.proofs.Lists.{each_append}
use Rattle.lvs_description.specs.Format.{Format, holds, ◌then◌, under, many, maybe}
use Rattle.lvs_description.proofs.Rows.{Short, short_left, short_right, inside_short, all_formed, all_back, map_each}
use Rattle.lvs_description.proofs.Rows.{apart, disjoint, distinct, not_member, Found, found, heavy, weight, weight_append, weight_le}
use Rattle.lvs_description.proofs.Rows.{encode_append, holds_le, okay, Laid, end, put, past_many, past_maybe, laid_ranged, laid_order}
use Rattle.lvs_description.proofs.Given.{Owes, Fine, AllFine, Given, given}

-- a value that was read is well formed, and written in n bytes at most
abbrev pub Kept : {A : Type 0} → Format A → A → ℕ → Type 0
Kept f a n = (f.formed a ≡ true) × (length (encode (f.elements a)) ≤ n)

-- of these types F has what the elements hold
abbrev pub Agree : List ℕ → Found → List Element → Type 0
Agree ts F es = (t : ℕ) → member t ts ≡ true → F t ≡ found es t

module _ (inner : Kind → List ℕ → Bool) (k : Kind) where
  -- g writes one element of type t; `of` reads its inside
  pub record Cell {A : Type 0} (t : ℕ) (g : Format A) (of : List ℕ → A) : Type 0 where
    -- what the type says that the inside is, and the inside
    pub what : Known
    pub known_is : meaning t ≡ known what
    pub inside : A → List ℕ
    pub elements_is : (a : A) → g.elements a ≡ holds t (inside a)
    -- it is well formed where g says so, and then read back; what is read is well formed, and its inside no longer
    pub formed_is : (a : A) → Short (inside a) → inside_ok inner k what (inside a) ≡ g.formed a
    pub back : (a : A) → Short (inside a) → g.formed a ≡ true → of (inside a) ≡ a
    pub kept : (x : List ℕ) → Fine inner k what x → (g.formed (of x) ≡ true) × (length (inside (of x)) ≤ length x)

  -- f writes elements of its own types, which take the items to those that are left; `read` reads them, by what is found of each type
  pub record Part {A : Type 0} (own : List ℕ) (items left : List Item) (f : Format A) (read : Found → A) : Type 0 where
    -- they stand in order, have well-formed insides where f says so, and are of no other type
    pub laid : (a : A) {es : List Element} → Laid left es → Laid items (f.elements a ++ es)
    pub formed_is : (a : A) → Short (encode (f.elements a)) → all (okay inner k) (f.elements a) ≡ f.formed a
    pub foreign : (t : ℕ) → member t own ≡ false → (a : A) → found (f.elements a) t ≡ []
    -- they are read back; what is read off well-formed bytes is well formed, and written in no more than the elements of these types took
    pub back : (a : A) (F : Found) → Short (encode (f.elements a)) → f.formed a ≡ true → Agree own F (f.elements a) → read F ≡ a
    pub kept : (F : Found) → Given inner k F → Kept f (read F) (weight own F)

module _ {inner : Kind → List ℕ → Bool} {k : Kind} where
  -- ---- one cell

  module _ {A : Type 0} {t : ℕ} {g : Format A} {of : List ℕ → A} (C : Cell inner k t g of) where
    -- the laws of parts for a single cell
    cell_short : (a : A) → Short (encode (g.elements a)) → Short (C.inside a)
    cell_short a h = inside_short t (C.inside a) (rw (C.elements_is a) at h)

    cell_laid : (items left : List Item) → step items t ≡ some left → (a : A) {es : List Element} → Laid left es
        → Laid items (g.elements a ++ es)
    cell_laid items left s a L = rw (C.elements_is a) (put C.what C.known_is s L)

    cell_formed : (a : A) → Short (encode (g.elements a)) → all (okay inner k) (g.elements a) ≡ g.formed a
    cell_formed a h = rw (C.elements_is a, C.known_is) (and-true (inside_ok inner k C.what (C.inside a)) ∙ C.formed_is a (cell_short a h))

    cell_found : (a : A) → found (g.elements a) t ≡ C.inside a ∷ []
    unfolding inside_of
    cell_found a = rw (C.elements_is a, eq-eqb t t refl)

    cell_back : (a : A) → Short (encode (g.elements a)) → g.formed a ≡ true → each (λ e. map of (inside_of t e)) (g.elements a) ≡ a ∷ []
    unfolding inside_of
    cell_back a h ok = rw (C.elements_is a, eq-eqb t t refl, C.back a (cell_short a h) ok)

    cell_foreign : (s : ℕ) → eqb s t ≡ false → (a : A) → found (g.elements a) s ≡ []
    unfolding inside_of
    cell_foreign s d a = rw (C.elements_is a, d)

    cell_fine : {F : Found} → Given inner k F → AllFine inner k C.what (F t)
    cell_fine G = G.fine t C.what C.known_is

    -- what is read off the inside is written no longer
    pub cell_le : (x : List ℕ) → Fine inner k C.what x → length (encode (g.elements (of x))) ≤ length (element_bytes (record { type = t; inside = x }))
    cell_le x F = rw (C.elements_is (of x)) (holds_le t (C.inside (of x)) x (C.kept x F).1)

    -- a cell that stands once
    pub once_part : {left : List Item} → Owes t (order k) → Part inner k (the t) (once (the t) ∷ left) left g (λ F. of (first_or [] (F t)))
    unfolding step
    once_part {left} o =
        record {
          laid = cell_laid (once (the t) ∷ left) left (rw (eq-eqb t t refl));
          formed_is = cell_formed;
          foreign = λ s d a. cell_foreign s (neither (eqb s t) false d).0 a;
          back = λ a F h ok same. rw (same t (rw (eq-eqb t t refl)), cell_found a) (C.back a (cell_short a h) ok);
          kept = λ F G.
              let T = G.owed t C.what C.known_is o in
              let f : Fine inner k C.what T.head = (rw T.is at (cell_fine G)).0 in
              rw T.is ((C.kept T.head f).0, omega (arith, cell_le T.head f));
        }

    -- at most once
    pub maybe_part : {left : List Item} → step left t ≡ none
        → Part inner k (the t) (grammar.maybe (the t) ∷ left) left (maybe g) (λ F. first_of (map of (F t)))
    unfolding step encode
    maybe_part {left} n = record { laid = laid; formed_is = formed_is; foreign = foreign; back = back; kept = λ F G. kept (F t) (cell_fine G) }
      where
        laid : (o : Option A) {es : List Element} → Laid left es → Laid (grammar.maybe (the t) ∷ left) ((maybe g).elements o ++ es)
        laid none L = past_maybe t left n L
        laid (some a) L = cell_laid (grammar.maybe (the t) ∷ left) left (rw (eq-eqb t t refl, step)) a L

        formed_is : (o : Option A) → Short (encode ((maybe g).elements o)) → all (okay inner k) ((maybe g).elements o) ≡ (maybe g).formed o
        formed_is none h = refl
        formed_is (some a) h = cell_formed a h

        foreign : (s : ℕ) → member s (the t) ≡ false → (o : Option A) → found ((maybe g).elements o) s ≡ []
        foreign s d none = refl
        foreign s d (some a) = cell_foreign s (neither (eqb s t) false d).0 a

        back : (o : Option A) (F : Found) → Short (encode ((maybe g).elements o)) → (maybe g).formed o ≡ true → Agree (the t) F ((maybe g).elements o)
            → first_of (map of (F t)) ≡ o
        back none F h ok same = rw (same t (rw (eq-eqb t t refl)))
        back (some a) F h ok same = rw (same t (rw (eq-eqb t t refl)), cell_found a, C.back a (cell_short a h) ok)

        kept : (xs : List (List ℕ)) → AllFine inner k C.what xs → Kept (maybe g) (first_of (map of xs)) (heavy t xs + 0)
        kept [] f = (refl, omega arith)
        kept (x ∷ xs) f = ((C.kept x f.0).0, omega (arith, cell_le x f.0))

    -- any number of times
    pub many_part : {left : List Item} → step left t ≡ none → Part inner k (the t) (grammar.many (the t) ∷ left) left (many g) (λ F. map of (F t))
    unfolding step encode
    many_part {left} n =
        record {
          laid = laid;
          formed_is = all_formed g (okay inner k) cell_formed;
          foreign = foreign;
          back = λ vs F h ok same. rw (same t (rw (eq-eqb t t refl)), map_each of (inside_of t) (each g.elements vs)) (all_back g _ cell_back vs h ok);
          kept = λ F G. kept (F t) (cell_fine G);
        }
      where
        items : List Item
        items = grammar.many (the t) ∷ left

        laid : (vs : List A) {es : List Element} → Laid left es → Laid items (each g.elements vs ++ es)
        laid [] L = past_many t left n L
        laid (a ∷ vs) L = rw append_assoc (cell_laid items items (rw (eq-eqb t t refl, step)) a (laid vs L))

        foreign : (s : ℕ) → member s (the t) ≡ false → (vs : List A) → found (each g.elements vs) s ≡ []
        foreign s d [] = refl
        foreign s d (a ∷ vs) =
            rw (each_append (inside_of s) (g.elements a) (each g.elements vs), cell_foreign s (neither (eqb s t) false d).0 a, foreign s d vs)

        kept : (xs : List (List ℕ)) → AllFine inner k C.what xs → Kept (many g) (map of xs) (heavy t xs + 0)
        kept [] f = (refl, omega arith)
        kept (x ∷ xs) f =
            let r = kept xs f.1 in (
              rw (C.kept x f.0).0 r.0,
              omega (arith, cell_le x f.0, encode_append (g.elements (of x)) (each g.elements (map of xs))),
            )

  -- ---- parts made of parts

  -- one behind the other: neither has a type of the other
  pub then_part : {A B : Type 0} {own own' : List ℕ} {items middle left : List Item} {f : Format A} {g : Format B} {read : Found → A} {read' : Found → B}
      → disjoint own own' ≡ true → Part inner k own items middle f read → Part inner k own' middle left g read'
      → Part inner k (own ++ own') items left (f then g) (λ F. (read F, read' F))
  then_part {A} {B} {own} {own'} {items} {middle} {left} {f} {g} {read} {read'} d P Q =
      record {
        laid = λ p L. rw append_assoc (P.laid p.0 (Q.laid p.1 L));
        formed_is = λ p h.
            let x = f.elements p.0 in
            let y = g.elements p.1 in
            rw (all_append (okay inner k) x y, P.formed_is p.0 (short_left x y h), Q.formed_is p.1 (short_right x y h));
        foreign = λ t m p.
            let n = neither (member t own) (member t own') (sym (any_append (eqb t) own own') ∙ m) in
            rw (each_append (inside_of t) (f.elements p.0) (g.elements p.1), P.foreign t n.0 p.0, Q.foreign t n.1 p.1);
        back = back;
        kept = λ F G.
            let a = P.kept F G in
            let b = Q.kept F G in
            (rw a.0 b.0, omega (arith, encode_append (f.elements (read F)) (g.elements (read' F)), weight_append own own' F));
      }
    where
      back : (p : A × B) (F : Found) → Short (encode ((f then g).elements p)) → (f then g).formed p ≡ true
          → Agree (own ++ own') F ((f then g).elements p) → (read F, read' F) ≡ p
      back p F h ok same =
          let x = f.elements p.0 in
          let y = g.elements p.1 in
          let (apart-left, apart-right) = both (apart own own') (apart own' own) d in
          let (ok-left, ok-right) = both (f.formed p.0) (g.formed p.1) ok in
          let left-same : Agree own F x = λ t m.
          same t (rw (any_append (eqb t) own own', m)) ∙
          each_append (inside_of t) x y ∙
          rw (Q.foreign t (not_member own own' apart-left t m) p.1) (append-nil (found x t)) in
          let right-same : Agree own' F y = λ t m.
          let n = not_member own' own apart-right t m in
          same t (rw (any_append (eqb t) own own', n, m)) ∙ each_append (inside_of t) x y ∙ rw (P.foreign t n p.0) in
          let first : read F ≡ p.0 = P.back p.0 F (short_left x y h) ok-left left-same in
          let second : read' F ≡ p.1 = Q.back p.1 F (short_right x y h) ok-right right-same in
          λ i. (first i, second i)

  -- the same part as values of another type
  pub under_part : {A B : Type 0} {own : List ℕ} {items left : List Item} {f : Format A} {read : Found → A} (to : A → B) (of : B → A)
      → ((b : B) → to (of b) ≡ b) → ((a : A) → of (to a) ≡ a) → Part inner k own items left f read
      → Part inner k own items left (under to of f) (λ F. to (read F))
  under_part {A} {own = own} {f = f} {read = read} to of there back P =
      record {
        laid = λ b L. P.laid (of b) L;
        formed_is = λ b h. P.formed_is (of b) h;
        foreign = λ t m b. P.foreign t m (of b);
        back = λ b F h ok same. ap to (P.back (of b) F h ok same) ∙ there b;
        kept = λ F G. subst (λ (a : A). Kept f a (weight own F)) (sym (back (read F))) (P.kept F G);
      }

-- ---- a whole container

-- f writes what a container of kind k holds, and `of` reads it: the bytes are well formed where f says so, and are then read back; what is
-- read off well-formed bytes is well formed, and written no longer
pub record Container {A : Type 0} (n : ℕ) (k : Kind) (f : Format A) (of : List ℕ → A) : Type 0 where
  pub cut_is : (a : A) → Short (encode (f.elements a)) → cuts (encode (f.elements a)) ≡ nexts (f.elements a) done
  pub formed_is : (a : A) → Short (encode (f.elements a)) → well_formed_by n k (encode (f.elements a)) ≡ f.formed a
  pub back : (a : A) → Short (encode (f.elements a)) → f.formed a ≡ true → of (encode (f.elements a)) ≡ a
  pub kept : (b : List ℕ) → Good n k b → Kept f (of b) (length b)

-- a container's laws, by its elements: `read` is its reader
pub by_elements : {A : Type 0} {n : ℕ} {k : Kind} {f : Format A} (read : List Element → A) (of : List ℕ → A)
    → ((b : List ℕ) (es : List Element) → cuts b ≡ nexts es done → of b ≡ read es)
    → ((a : A) → Laid (order k) (f.elements a))
    → ((a : A) → Short (encode (f.elements a)) → all (okay (well_formed_by n) k) (f.elements a) ≡ f.formed a)
    → ((a : A) → Short (encode (f.elements a)) → f.formed a ≡ true → read (f.elements a) ≡ a)
    → ((es : List Element) → Ordered (well_formed_by n) k (order k) es → Each Small es → Kept f (read es) (length (encode es)))
    → Container (suc n) k f of
unfolding well_formed_by
by_elements {A} {n} {k} {f} read of reads laid okay-is back kept =
    record {
      cut_is = cut_is;
      formed_is = λ a h. rw (cut_is a h) (laid_order (well_formed_by n) k (laid a) ∙ okay-is a h);
      back = λ a h ok. reads _ (f.elements a) (cut_is a h) ∙ back a h ok;
      kept = λ b g.
          let H = held g in
          let r = kept H.elements H.ordered H.smalls in
          rw (reads b H.elements H.cut_is) (r.0, omega (arith, r.1, ap length H.encode_is));
    }
  where
    cut_is : (a : A) → Short (encode (f.elements a)) → cuts (encode (f.elements a)) ≡ nexts (f.elements a) done
    cut_is a h = cuts_encoded _ (laid_ranged (laid a) h)

-- they are those of its parts
pub container : {A : Type 0} {n : ℕ} {k : Kind} {own : List ℕ} {f : Format A} {read : Found → A} → Part (well_formed_by n) k own (order k) [] f read
    → distinct own ≡ true → (of : List ℕ → A) → ((b : List ℕ) → of b ≡ read (λ t. insides t b)) → Container (suc n) k f of
unfolding insides final
container {A} {n} {k} {own} {f} {read} P d of of_is =
    by_elements (λ es. read (found es)) of
    (λ b es c. of_is b ∙ (λ i. read (λ t. (ap (each_cut (inside_of t)) c ∙ each_cut_nexts (inside_of t) es) i)))
    (λ a. rw append-nil at (P.laid a (end refl))) P.formed_is (λ a h ok. P.back a _ h ok (λ t m. refl))
    (λ es o s. let r = P.kept (found es) (given (well_formed_by n) k o s) in (r.0, omega (arith, r.1, weight_le own es d)))
