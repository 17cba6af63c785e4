-- Loops over the elements of a container: what a loop has gathered and what it has left make the whole. Assumes nothing.
use mathlib.Core.Path.{◌≡◌, refl, sym, ap, ◌∙◌}
use mathlib.Core.Logic.{◌⊎◌, inl, inr, ⊎_elim}
use mathlib.Core.Bool.{Bool, true, false, ◌&&◌, ◌||◌, or-false, and-true}
use mathlib.Core.List.{List, [], ◌∷◌, ◌++◌, map, foldl, append_assoc, append-nil, foldl-append}
use Prim.Native.Nat.{ℕ, ◌+◌, ◌-◌, ◌≤◌, ◌<◌}
use native.Mathlib.Omega.{arith}
use lib.Dec.{eqb}
use borrow.Author.Tests.{eq-eqb, ne_eqb}
use lib.ListN.{length, take, drop, length-append}
use Rattle.tlv.specs.Element.{Element, done, broken, cuts}
use Rattle.tlv.specs.Lists.{when, any, all}
use Rattle.tlv.specs.Fields.{each_cut, inside_of, insides}
use Rattle.tlv.specs.declared.Place.{Place}
use Rattle.tlv.specs.declared.Read.{Read}
use Rattle.tlv.specs.declared.Read.TheVariants.{End, Malformed}
use Rattle.tlv.specs.Answers.{read_at}
use Rattle.tlv.proofs.Cuts.{Step, seen, by_elements, cuts_end, cuts_malformed, cuts_next, rest_shorter}

-- ---- what is left at a place, by what the reader answered there

-- no element stands at this place: the list ends or is malformed there
pub record Stop (s : List ℕ) (at : ℕ) : Type 0 where
  pub cut_is : (cuts (drop at s) ≡ done) ⊎ (cuts (drop at s) ≡ broken)

pub stop_end : (s : List ℕ) (at : ℕ) {r : Read} → r ≡ read_at s at → r ≡ End → Stop s at
stop_end s at e f = record { cut_is = inl (seen s at e f) }

pub stop_malformed : (s : List ℕ) (at : ℕ) {r : Read} → r ≡ read_at s at → r ≡ Malformed → Stop s at
stop_malformed s at e f = record { cut_is = inr (seen s at e f) }

-- what f gives for each element
abbrev pub over : {A : Type 0} → (Element → List A) → List ℕ → List A
over f b = each_cut f (cuts b)

module _ {A : Type 0} (f : Element → List A) {s : List ℕ} {at : ℕ} where
  module _ {t start stop : ℕ} {n : Place} (st : Step s at t start stop n) where
    pub each_found : each_cut f (cuts (drop at s)) ≡ f (record { type = t; inside = take (stop - start) (drop start s) }) ++ each_cut f (cuts (drop n.at s))
    unfolding each_cut
    each_found = rw st.cut_is

    pub each_one : {x : A} → f (record { type = t; inside = take (stop - start) (drop start s) }) ≡ x ∷ []
        → each_cut f (cuts (drop at s)) ≡ x ∷ each_cut f (cuts (drop n.at s))
    each_one e = each_found ∙ rw e

    pub each_none : f (record { type = t; inside = take (stop - start) (drop start s) }) ≡ []
        → each_cut f (cuts (drop at s)) ≡ each_cut f (cuts (drop n.at s))
    each_none e = each_found ∙ rw e

  pub each_stop : Stop s at → each_cut f (cuts (drop at s)) ≡ []
  unfolding each_cut
  each_stop st = ⊎_elim (λ e. rw e) (λ e. rw e) st.cut_is

-- the insides of one type
module _ {k t : ℕ} (b : List ℕ) where
  pub inside_taken : t ≡ k → inside_of k (record { type = t; inside = b }) ≡ b ∷ []
  unfolding inside_of
  inside_taken e = rw (eq-eqb k t (sym e))

  pub inside_passed : (t ≡ k → ⊥) → inside_of k (record { type = t; inside = b }) ≡ []
  unfolding inside_of
  inside_passed no' = rw (ne_eqb k t (λ e. no' (sym e)))

module _ (k : ℕ) {s : List ℕ} {at : ℕ} where
  module _ {t start stop : ℕ} {n : Place} (st : Step s at t start stop n) where
    pub insides_found : t ≡ k → insides k (drop at s) ≡ take (stop - start) (drop start s) ∷ insides k (drop n.at s)
    unfolding insides
    insides_found e = each_one (inside_of k) st (inside_taken _ e)

    pub insides_other : (t ≡ k → ⊥) → insides k (drop at s) ≡ insides k (drop n.at s)
    unfolding insides
    insides_other no' = each_none (inside_of k) st (inside_passed _ no')

  pub insides_stop : Stop s at → insides k (drop at s) ≡ []
  unfolding insides
  insides_stop st = each_stop (inside_of k) st

-- and what g reads in each of them
module _ {A : Type 0} (g : List ℕ → A) (k : ℕ) {s : List ℕ} {at : ℕ} where
  module _ {t start stop : ℕ} {n : Place} (st : Step s at t start stop n) where
    pub read_found : t ≡ k → map g (insides k (drop at s)) ≡ g (take (stop - start) (drop start s)) ∷ map g (insides k (drop n.at s))
    read_found e = ap (map g) (insides_found k st e)

    pub read_other : (t ≡ k → ⊥) → map g (insides k (drop at s)) ≡ map g (insides k (drop n.at s))
    read_other no' = ap (map g) (insides_other k st no')

  pub read_stop : Stop s at → map g (insides k (drop at s)) ≡ []
  read_stop st = ap (map g) (insides_stop k st)

-- ---- THE LAW OF THE LOOPS

-- what a list comes to, and how one entry more changes that
pub record Gathering (A B : Type 0) : Type 0 where
  pub of : List A → B
  pub add : B → A → B
  pub more : (xs : List A) (x : A) → of (xs ++ (x ∷ [])) ≡ add (of xs) x

-- `view` is the list that bytes are read as. A loop that started at `from` and stands at a place has gathered b: what the entries before it
-- come to.
pub record GatheredFrom {A B : Type 0} (G : Gathering A B) (view : List ℕ → List A) (s : List ℕ) (from at : ℕ) (b : B) : Type 0 where
  pub taken : List A
  pub whole : taken ++ view (drop at s) ≡ view (drop from s)
  pub is : b ≡ G.of taken

-- most start at the front
abbrev pub Gathered : {A B : Type 0} → Gathering A B → (List ℕ → List A) → List ℕ → ℕ → B → Type 0
Gathered G view s at b = GatheredFrom G view s 0 at b

-- a result that no entry changes
kept : {A B : Type 0} (G : Gathering A B) {v : B} → ((y : A) → G.add v y ≡ v) → (xs ys : List A) → v ≡ G.of xs → v ≡ G.of (xs ++ ys)
kept G same xs [] e = rw (append-nil xs) e
kept {B} G {v} same xs (y ∷ ys) e =
    let m : v ≡ G.of (xs ++ (y ∷ [])) = sym (same y) ∙ ap (λ (c : B). G.add c y) e ∙ sym (G.more xs y) in
    kept G same (xs ++ (y ∷ [])) ys m ∙ ap G.of (append_assoc xs (y ∷ []) ys)

module _ {A B : Type 0} {G : Gathering A B} where
  pub started : {view : List ℕ → List A} {s : List ℕ} {from : ℕ} → GatheredFrom G view s from from (G.of [])
  started = record { taken = []; whole = refl; is = refl }

  module _ {view : List ℕ → List A} {s : List ℕ} {from at : ℕ} {b : B} (inv : GatheredFrom G view s from at b) where
    -- what is left, put in another way
    left : {ys : List A} → view (drop at s) ≡ ys → inv.taken ++ ys ≡ view (drop from s)
    left e = rw (← e) inv.whole

    one_more : {x : A} {b' : B} → b' ≡ G.add b x → b' ≡ G.of (inv.taken ++ (x ∷ []))
    one_more {x} q = q ∙ ap (λ (c : B). G.add c x) inv.is ∙ sym (G.more inv.taken x)

    -- an element that adds nothing
    pub passed : {n : ℕ} → view (drop at s) ≡ view (drop n s) → GatheredFrom G view s from n b
    passed e = record { taken = inv.taken; whole = left e; is = inv.is }

    -- one that adds an entry
    pub took : {x : A} {n : ℕ} {b' : B} → view (drop at s) ≡ x ∷ view (drop n s) → b' ≡ G.add b x → GatheredFrom G view s from n b'
    took {x} e q = record { taken = inv.taken ++ (x ∷ []); whole = append_assoc inv.taken _ _ ∙ left e; is = one_more q }

    -- one after which the result is settled
    pub settled : {x : A} {rest : List A} {v : B} → view (drop at s) ≡ x ∷ rest → v ≡ G.add b x → ((y : A) → G.add v y ≡ v)
        → v ≡ G.of (view (drop from s))
    settled {x} {rest} e q same =
        kept G same (inv.taken ++ (x ∷ [])) rest (one_more q) ∙ ap G.of (append_assoc inv.taken _ _ ∙ left e)

    -- nothing is left
    pub ended : view (drop at s) ≡ [] → b ≡ G.of (view (drop from s))
    ended e = inv.is ∙ ap G.of (sym (append-nil inv.taken) ∙ left e)

-- ---- its instances

-- what a step makes of an answer and an entry, from the front
abbrev pub folded : {A B : Type 0} → (B → A → B) → B → Gathering A B
folded f b = record { of = foldl f b; add = f; more = λ xs x. foldl-append f b xs (x ∷ []) }

module _ {A : Type 0} where
  -- the list itself; a search goes on while it is empty
  abbrev pub listed : Gathering A (List A)
  listed = record { of = λ xs. xs; add = λ xs x. xs ++ (x ∷ []); more = λ xs x. refl }

  pub rest_is : {view : List ℕ → List A} {s : List ℕ} {from at : ℕ} {xs : List A} → GatheredFrom listed view s from at xs
      → view (drop from s) ≡ xs ++ view (drop at s)
  rest_is inv = sym inv.whole ∙ rw (← inv.is)

  -- how many
  abbrev pub counted : Gathering A ℕ
  counted = record { of = length; add = λ m x. m + 1; more = λ xs x. length-append xs (x ∷ []) }

  pub one_left : {view : List ℕ → List A} {s : List ℕ} {from at m : ℕ} {x : A} {rest : List A} → GatheredFrom counted view s from at m
      → view (drop at s) ≡ x ∷ rest → m < length (view (drop from s))
  one_left inv e = omega (arith, inv.is, simp length-append at (ap length (left inv e)))

  -- a test passes on two lists where it passes on one of them
  pub any_append : (p : A → Bool) (xs ys : List A) → any p (xs ++ ys) ≡ any p xs || any p ys
  any_append p [] ys = refl
  any_append p (x ∷ xs) ys = go (p x) (any_append p xs ys)
    where
      go : (b : Bool) → any p (xs ++ ys) ≡ any p xs || any p ys → b || any p (xs ++ ys) ≡ (b || any p xs) || any p ys
      go true h = refl
      go false h = h

  pub all_append : (p : A → Bool) (xs ys : List A) → all p (xs ++ ys) ≡ all p xs && all p ys
  all_append p [] ys = refl
  all_append p (x ∷ xs) ys = go (p x) (all_append p xs ys)
    where
      go : (b : Bool) → all p (xs ++ ys) ≡ all p xs && all p ys → b && all p (xs ++ ys) ≡ (b && all p xs) && all p ys
      go true h = h
      go false h = refl

  -- whether some entry passes a test
  abbrev pub some_of : (A → Bool) → Gathering A Bool
  some_of p = record { of = any p; add = λ b x. b || p x; more = λ xs x. any_append p xs (x ∷ []) ∙ rw (or-false (p x)) }

  -- whether all do
  abbrev pub all_of : (A → Bool) → Gathering A Bool
  all_of p = record { of = all p; add = λ b x. b && p x; more = λ xs x. all_append p xs (x ∷ []) ∙ rw (and-true (p x)) }

  module _ {p : A → Bool} {view : List ℕ → List A} {s : List ℕ} {at : ℕ} where
    module _ (inv : Gathered (some_of p) view s at false) where
      -- r is the test of the entry that comes next
      pub some_here : {x : A} {rest : List A} {r : Bool} → view (drop at s) ≡ x ∷ rest → r ≡ p x → r ≡ true → true ≡ any p (view s)
      some_here e read q = settled inv e (sym q ∙ read) (λ y. refl)

      pub some_later : {x : A} {n : ℕ} {r : Bool} → view (drop at s) ≡ x ∷ view (drop n s) → r ≡ p x → r ≡ false
          → Gathered (some_of p) view s n false
      some_later e read q = took inv e (sym q ∙ read)

    module _ (inv : Gathered (all_of p) view s at true) where
      pub not_here : {x : A} {rest : List A} {r : Bool} → view (drop at s) ≡ x ∷ rest → r ≡ p x → r ≡ false → false ≡ all p (view s)
      not_here e read q = settled inv e (sym q ∙ read) (λ y. refl)

      pub all_later : {x : A} {n : ℕ} {r : Bool} → view (drop at s) ≡ x ∷ view (drop n s) → r ≡ p x → r ≡ true
          → Gathered (all_of p) view s n true
      all_later e read q = took inv e (sym q ∙ read)

-- elements that f gives any number of entries for; r is the test of those of the next one
module _ {A : Type 0} {p : A → Bool} (f : Element → List A) {s : List ℕ} {at : ℕ} (inv : Gathered (some_of p) (over f) s at false)
    {t start stop : ℕ} {n : Place} (st : Step s at t start stop n) {r : Bool}
    (read : r ≡ any p (f (record { type = t; inside = take (stop - start) (drop start s) }))) where
  pub some_in_it : r ≡ true → true ≡ any p (over f s)
  some_in_it q =
      let b = inv.is in
      sym (ap (any p) (sym (left inv (each_found f st))) ∙ rw (any_append p inv.taken, any_append p (f _), ← read, q, ← b))

  pub none_in_it : r ≡ false → Gathered (some_of p) (over f) s n.at false
  none_in_it q =
      record {
        taken = inv.taken ++ f (record { type = t; inside = take (stop - start) (drop start s) });
        whole = append_assoc inv.taken _ _ ∙ left inv (each_found f st);
        is = sym (rw (any_append p inv.taken, ← read, q, ← inv.is));
      }

-- ---- how many there can be

pub each_most : {A : Type 0} (f : Element → List A) → ((e : Element) → length (f e) ≤ 1) → (s : List ℕ) → length (each_cut f (cuts s)) ≤ length s
unfolding each_cut
each_most f one s =
    by_elements
    (λ b. length (each_cut f (cuts b)) ≤ length b)
    (λ b p. rw (cuts_end b p) (omega arith))
    (λ b p. rw (cuts_malformed b p) (omega arith))
    (λ b h e r p ih. rw (cuts_next b h e r p, length-append) (omega (arith, one e, rest_shorter b h e r p)))
    s

pub insides_most : (k : ℕ) (s : List ℕ) → length (insides k s) ≤ length s
unfolding insides inside_of
insides_most k s = each_most (inside_of k) few s
  where
    few : (e : Element) → length (inside_of k e) ≤ 1
    few e = go (eqb k e.type)
      where
        go : (b : Bool) → length (when b e.inside) ≤ 1
        go true = omega arith
        go false = omega arith
