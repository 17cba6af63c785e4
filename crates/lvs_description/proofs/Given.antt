-- What well-formed bytes hold, by type: every inside is well formed where it stands, and a type that must stand is there. Assumes nothing.
use mathlib.Core.Path.{◌≡◌, refl, sym, ap, subst, ◌∙◌}
use mathlib.Core.Bool.{Bool, true, false, ◌||◌, false≢true}
use mathlib.Core.List.{List, [], ◌∷◌, ◌++◌}
use mathlib.Core.Option.{some}
use Prim.Native.Nat.{ℕ}
use borrow.Author.Tests.{eqb-true, eq-eqb}
use lib.Dec.{eqb}
use Rattle.tlv.specs.Bytes.{Bytes}
use Rattle.tlv.specs.Element.{Element, Each}
use Rattle.tlv.specs.Fields.{inside_of}
use Rattle.tlv.specs.Lists.{member, when}
use Rattle.lvs_spec.specs.Grammar.{Kind, Known, Item, meaning, order, step, final, the, once, maybe, many, optional, known}
use Rattle.lvs_spec.specs.WellFormed.{inside_ok}
use Rattle.lvs_spec.proofs.Grammar.{types_differ, Ordered, stop, skip, take}
use Rattle.lvs_spec.proofs.Bare.{Small}
use Rattle.lvs_spec.proofs.Lists.{clash, guard_from}
use Rattle.lvs_description.proofs.Rows.{Short, Found, found}

-- a known type is not that of an optional element, so nothing of that type is found in one
pub optional_other : (t : ℕ) (w : Known) → meaning t ≡ known w → (e : Element) → meaning e.type ≡ optional → eqb t e.type ≡ false
optional_other t w m e q = types_differ t e.type m q (λ h. clash (cc))

-- ---- types that must stand

-- t alone stands once in these items
pub data Owes (t : ℕ) : List Item → Type 0 where
  here : {items : List Item} → Owes t (once (the t) ∷ items)
  past_once : {ts : List ℕ} {items : List Item} → Owes t items → Owes t (once ts ∷ items)
  past_maybe : {ts : List ℕ} {items : List Item} → Owes t items → Owes t (maybe ts ∷ items)
  past_many : {ts : List ℕ} {items : List Item} → Owes t items → Owes t (many ts ∷ items)

-- an element of type s pays it, or leaves it owed
data Next (t s : ℕ) (left : List Item) : Type 0 where
  paid : t ≡ s → Next t s left
  still : Owes t left → Next t s left

step_next : (t s : ℕ) {items : List Item} (left : List Item) → Owes t items → step items s ≡ some left → Next t s left
unfolding step
step_next t s left (here {items}) e = paid (go (eqb s t) refl (guard_from (member s (the t)) items e).0)
  where
    go : (a : Bool) → eqb s t ≡ a → (a || false) ≡ true → t ≡ s
    go true p h = sym (eqb-true s t p)
    go false p h = absurd (false≢true h)
step_next t s left (past_once {ts} {items} o) e = still (subst (Owes t) (guard_from (member s ts) items e).1 o)
step_next t s left (past_maybe {ts} {items} o) e = go (member s ts) refl (step_next t s left o)
  where
    go : (c : Bool) → member s ts ≡ c → (step items s ≡ some left → Next t s left) → Next t s left
    go true p rec = let q : some items ≡ some left = rw (p, step) at e in let r : items ≡ left = cc in still (subst (Owes t) r o)
    go false p rec = rec (rw (p, step) at e)
step_next t s left (past_many {ts} {items} o) e = go (member s ts) refl (step_next t s left o)
  where
    go : (c : Bool) → member s ts ≡ c → (step items s ≡ some left → Next t s left) → Next t s left
    go true p rec =
        let q : some (many ts ∷ items) ≡ some left = rw (p, step) at e in
        let r : many ts ∷ items ≡ left = cc in
        still (subst (Owes t) r (past_many o))
    go false p rec = rec (rw (p, step) at e)

not_final : (t : ℕ) {items : List Item} → Owes t items → final items ≡ true → ⊥
unfolding final
not_final t (here {items}) e = false≢true e
not_final t (past_once {ts} {items} o) e = false≢true e
not_final t (past_maybe {ts} {items} o) e = not_final t o e
not_final t (past_many {ts} {items} o) e = not_final t o e

-- a list is not empty
pub record There (l : List (List ℕ)) : Type 0 where
  pub head : List ℕ
  pub tail : List (List ℕ)
  pub is : l ≡ head ∷ tail

-- ---- by the elements in order

module _ (inner : Kind → List ℕ → Bool) (k : Kind) where
  -- bytes that are well formed as what w says
  pub record Fine (w : Known) (x : List ℕ) : Type 0 where
    pub bytes : Bytes x
    pub short : Short x
    pub ok : inside_ok inner k w x ≡ true

  abbrev pub AllFine : Known → List (List ℕ) → Type 0
  AllFine w [] = Unit {0}
  AllFine w (x ∷ xs) = Fine w x × AllFine w xs

  -- an element that is well formed where it stands
  pub record Stands (e : Element) : Type 0 where
    pub what : Known
    pub known_is : meaning e.type ≡ known what
    pub ok : inside_ok inner k what e.inside ≡ true
    pub small : Small e

  -- its inside is fine as what its type says
  pub fine_of : (t : ℕ) (w : Known) → meaning t ≡ known w → (e : Element) → Stands e → t ≡ e.type → Fine w e.inside
  fine_of t w m e S p =
      let same : known w ≡ known S.what = sym m ∙ ap meaning p ∙ S.known_is in
      let known_alike : S.what ≡ w = cc in
      record { bytes = S.small.0; short = S.small.1; ok = rw known_alike at S.ok }

  fines : (t : ℕ) (w : Known) → meaning t ≡ known w → {items : List Item} {es : List Element} → Ordered inner k items es → Each Small es
      → AllFine w (found es t)
  unfolding inside_of
  fines t w m (stop h) s = tt
  fines t w m (skip {items} {e} {es} q o) s = rw (optional_other t w m e q) (fines t w m o s.1)
  fines t w m (take {items} {left} {e} {es} v q p i o) s = go (eqb t e.type) refl (fines t w m o s.1)
    where
      go : (x : Bool) → eqb t e.type ≡ x → AllFine w (found es t) → AllFine w (when x e.inside ++ found es t)
      go true h rec = (fine_of t w m e (record { what = v; known_is = q; ok = i; small = s.0 }) (eqb-true t e.type h), rec)
      go false h rec = rec

  there : (t : ℕ) (w : Known) → meaning t ≡ known w → {items : List Item} {es : List Element} → Ordered inner k items es → Owes t items → There (found es t)
  unfolding inside_of
  there t w m (stop h) o = absurd (not_final t o h)
  there t w m (skip {items} {e} {es} q r) o = rw (optional_other t w m e q) (there t w m r o)
  there t w m (take {items} {left} {e} {es} v q p i r) o = go (step_next t e.type left o p) (there t w m r)
    where
      more : (c : Bool) → There (found es t) → There (when c e.inside ++ found es t)
      more true T = record { head = e.inside; tail = found es t; is = refl }
      more false T = T

      go : Next t e.type left → (Owes t left → There (found es t)) → There (when (eqb t e.type) e.inside ++ found es t)
      go (paid d) rec = rw (eq-eqb t e.type d) (record { head = e.inside; tail = found es t; is = refl })
      go (still o') rec = more (eqb t e.type) (rec o')

  -- what a container of kind k holds, where it is well formed
  pub record Given (F : Found) : Type 0 where
    pub fine : (t : ℕ) (w : Known) → meaning t ≡ known w → AllFine w (F t)
    pub owed : (t : ℕ) (w : Known) → meaning t ≡ known w → Owes t (order k) → There (F t)

  -- elements in order are such
  pub given : {es : List Element} → Ordered inner k (order k) es → Each Small es → Given (found es)
  given o s = record { fine = λ t w m. fines t w m o s; owed = λ t w m d. there t w m o d }
