-- The states of the code against the items of an order: one computed test over an order's states, turned into the rule at each. Assumes nothing.
use Prim.Native.Nat.{ℕ, zero, suc, ◌+◌, ◌≤◌, ◌<◌}
use mathlib.Core.Path.{◌≡◌, refl, sym, ap, ◌∙◌}
use mathlib.Core.Bool.{Bool, true, false, cond, not, ◌&&◌, false≢true}
use mathlib.Core.List.{List, [], ◌∷◌}
use mathlib.Core.Option.{Option, none, some}
use mathlib.Core.Logic.{◌⊎◌, ⊎_elim}
use native.Mathlib.Nat.{eq-or-lt_of_le, not-suc-le-zero}
use native.Mathlib.Omega.{arith}
use borrow.Author.Tests.{eqb-true, ltb-true, ltb-false, leb-true, le-leb, lt-leb}
use lib.Dec.{leb, ltb, eqb}
use lib.ListN.{length, drop, drop_of_length-le}
use lib.Seq.{drop-drop}
use Rattle.tlv.specs.Lists.{member, guard}
use Rattle.lvs_spec.specs.Grammar.{Kind, Item, once, maybe, many, order, step, final}
use Rattle.lvs_spec.proofs.Grammar.{both}
use Rattle.std.specs.Prelude.{Option as Answer, Some, None}
use Rattle.lvs_grammar.specs.declared.types.Kind as kinds
use Rattle.lvs_grammar.specs.Types.{kind_of}
use Rattle.lvs_grammar.specs.States.{left_behind, Slotted, slotted}
use Rattle.lvs_grammar.proofs.Apart.{Apart, types_in, refused}

-- ---- a test at each number below n

abbrev all_below : ℕ → (ℕ → Bool) → Bool
all_below zero f = true
all_below (suc n) f = f n && all_below n f

all_below_lem : (n : ℕ) (f : ℕ → Bool) → all_below n f ≡ true → (q : ℕ) → q < n → f q ≡ true
all_below_lem zero f h q lt = absurd (not-suc-le-zero lt)
all_below_lem (suc n) f h q lt = at (all_below_lem n f (both (f n) (all_below n f) h).1 q) (eq-or-lt_of_le (omega arith))
  where
    at : (q < n → f q ≡ true) → (q ≡ n) ⊎ (q < n) → f q ≡ true
    at more w = ⊎_elim (λ (e : q ≡ n). rw e (both (f n) (all_below n f) h).0) more w

-- ---- steps, counted in items

-- one item more
abbrev more : Option ℕ → Option ℕ
more none = none
more (some n) = some (suc n)

-- how many items are done with after an element of type t
abbrev counted : List Item → ℕ → Option ℕ
counted [] t = none
counted (once ts ∷ items) t = guard (member t ts) 1
counted (maybe ts ∷ items) t = cond (member t ts) (some 1) (more (counted items t))
counted (many ts ∷ items) t = cond (member t ts) (some 0) (more (counted items t))

-- the items left after that many
abbrev left : List Item → Option ℕ → Option (List Item)
left items none = none
left items (some n) = some (drop n items)

left_more : (i : Item) (items : List Item) (o : Option ℕ) → left items o ≡ left (i ∷ items) (more o)
left_more i items none = refl
left_more i items (some n) = refl

step_counted : (items : List Item) (t : ℕ) → step items t ≡ left items (counted items t)
unfolding step
step_counted [] t = refl
step_counted (once ts ∷ items) t = go (member t ts)
  where
    go : (b : Bool) → guard b items ≡ left (once ts ∷ items) (guard b 1)
    go true = refl
    go false = refl
step_counted (maybe ts ∷ items) t = go (member t ts) refl (step_counted items t)
  where
    go : (b : Bool) → member t ts ≡ b → step items t ≡ left items (counted items t)
        → step (maybe ts ∷ items) t ≡ left (maybe ts ∷ items) (counted (maybe ts ∷ items) t)
    go true e r = rw (e, step)
    go false e r = rw (e, step) (r ∙ left_more (maybe ts) items (counted items t))
step_counted (many ts ∷ items) t = go (member t ts) refl (step_counted items t)
  where
    go : (b : Bool) → member t ts ≡ b → step items t ≡ left items (counted items t)
        → step (many ts ∷ items) t ≡ left (many ts ∷ items) (counted (many ts ∷ items) t)
    go true e r = rw (e, step)
    go false e r = rw (e, step) (r ∙ left_more (many ts) items (counted items t))

-- q items further on
abbrev forward : ℕ → Option ℕ → Option ℕ
forward q none = none
forward q (some n) = some (q + n)

left_forward : (q : ℕ) (items : List Item) (o : Option ℕ) → left (drop q items) o ≡ left items (forward q o)
left_forward q items none = refl
left_forward q items (some n) = ap (λ (l : List Item). some l) (drop-drop n q items)

-- ---- a slot is a step

abbrev alike : Option ℕ → Option ℕ → Bool
alike none none = true
alike none (some n) = false
alike (some m) none = false
alike (some m) (some n) = eqb m n

alike_true : (a b : Option ℕ) → alike a b ≡ true → a ≡ b
alike_true none none h = refl
alike_true none (some n) h = absurd (false≢true h)
alike_true (some m) none h = absurd (false≢true h)
alike_true (some m) (some n) h = ap (λ (k : ℕ). some k) (eqb-true m n h)

abbrev within : ℕ → ℕ → ℕ → ℕ → Option ℕ
within q lo hi next = cond (leb lo q && leb q hi) (some next) none

abbrev fits_at : List Item → ℕ → ℕ → ℕ → ℕ → ℕ → Bool
fits_at items t lo hi next q = alike (within q lo hi next) (forward q (counted (drop q items) t))

-- an element of type t may stand in the states from lo to hi, and next is the state after it
abbrev pub fits : List Item → ℕ → ℕ → ℕ → ℕ → Bool
fits items t lo hi next = ltb hi (length items) && all_below (length items) (fits_at items t lo hi next)

slotted_left : (k : Kind) (q lo hi next : ℕ) → left_behind k (slotted q lo hi next) ≡ left (order k) (within q lo hi next)
unfolding slotted
slotted_left k q lo hi next = go (leb lo q && leb q hi) refl
  where
    go : (b : Bool) → (leb lo q && leb q hi) ≡ b → left_behind k (slotted q lo hi next) ≡ left (order k) (within q lo hi next)
    go true e = rw e
    go false e = rw e

-- in a state of the order, and past all of them
slot_within : (k : Kind) (t lo hi next q : ℕ) → fits_at (order k) t lo hi next q ≡ true → left_behind k (slotted q lo hi next) ≡ step (drop q (order k)) t
slot_within k t lo hi next q h =
    slotted_left k q lo hi next
    ∙ ap (left (order k)) (alike_true (within q lo hi next) (forward q (counted (drop q (order k)) t)) h)
    ∙ sym (step_counted (drop q (order k)) t ∙ left_forward q (order k) (counted (drop q (order k)) t))

slot_behind : (k : Kind) (t lo hi next q : ℕ) → hi < q → length (order k) ≤ q → left_behind k (slotted q lo hi next) ≡ step (drop q (order k)) t
unfolding slotted step
slot_behind k t lo hi next q h l = rw (drop_of_length-le (order k) l, lt-leb q hi h) (go (leb lo q))
  where
    go : (b : Bool) → left_behind k (cond (b && false) (Some next) None) ≡ none
    go true = refl
    go false = refl

slot_any : (k : Kind) (t lo hi next q : ℕ) → fits (order k) t lo hi next ≡ true → left_behind k (slotted q lo hi next) ≡ step (drop q (order k)) t
slot_any k t lo hi next q h = go (ltb q (length (order k))) refl
  where
    f : (ltb hi (length (order k)) ≡ true) × (all_below (length (order k)) (fits_at (order k) t lo hi next) ≡ true)
    f = both (ltb hi (length (order k))) _ h

    go : (b : Bool) → ltb q (length (order k)) ≡ b → left_behind k (slotted q lo hi next) ≡ step (drop q (order k)) t
    go true e = slot_within k t lo hi next q (all_below_lem (length (order k)) (fits_at (order k) t lo hi next) f.1 q (ltb-true _ _ e))
    go false e =
        let l : length (order k) ≤ q = ltb-false _ _ e in
        let b : hi < length (order k) = ltb-true _ _ f.0 in
        slot_behind k t lo hi next q (omega arith) l

-- the law of a slot
pub slot_step : (k : Kind) {t lo hi next q typ : ℕ} {r : Answer ℕ} → typ ≡ t → Slotted q lo hi next r → fits (order k) t lo hi next ≡ true
    → left_behind k r ≡ step (drop q (order k)) typ
slot_step k {t} {lo} {hi} {next} {q} e f h = rw (e, f.is) (slot_any k t lo hi next q h)

-- ---- where a container may end

abbrev same : Bool → Bool → Bool
same true b = b
same false b = not b

same_true : (a b : Bool) → same a b ≡ true → a ≡ b
same_true true b h = sym h
same_true false true h = absurd (false≢true h)
same_true false false h = refl

abbrev ends_at : List Item → ℕ → ℕ → Bool
ends_at items n q = same (leb n q) (final (drop q items))

-- a container may end in the states from n on
abbrev pub ends : List Item → ℕ → Bool
ends items n = leb n (length items) && all_below (length items) (ends_at items n)

-- the law of an end
pub end_final : (k : Kind) (n q : ℕ) → ends (order k) n ≡ true → leb n q ≡ final (drop q (order k))
unfolding final
end_final k n q h = go (ltb q (length (order k))) refl
  where
    f : (leb n (length (order k)) ≡ true) × (all_below (length (order k)) (ends_at (order k) n) ≡ true)
    f = both (leb n (length (order k))) _ h

    go : (b : Bool) → ltb q (length (order k)) ≡ b → leb n q ≡ final (drop q (order k))
    go true e = same_true _ _ (all_below_lem (length (order k)) (ends_at (order k) n) f.1 q (ltb-true _ _ e))
    go false e =
        let l : length (order k) ≤ q = ltb-false _ _ e in
        let b : n ≤ length (order k) = leb-true _ _ f.0 in
        rw (drop_of_length-le (order k) l, le-leb n q (omega arith))

-- ---- the same, for a kind that a match has found

module _ {kind k : kinds.Kind} (e : kind ≡ k) where
  pub slot_in : {t lo hi next q typ : ℕ} {r : Answer ℕ} → typ ≡ t → Slotted q lo hi next r → fits (order (kind_of k)) t lo hi next ≡ true
      → left_behind (kind_of kind) r ≡ step (drop q (order (kind_of kind))) typ
  slot_in f s h = rw e (slot_step (kind_of k) f s h)

  pub refused_in : (q t : ℕ) → Apart (Unit {0}) (types_in (order (kind_of k))) t → none ≡ step (drop q (order (kind_of kind))) t
  refused_in q t h = rw e (refused (kind_of k) q t h)

  pub end_in : (n q : ℕ) → ends (order (kind_of k)) n ≡ true → leb n q ≡ final (drop q (order (kind_of kind)))
  end_in n q h = rw e (end_final (kind_of k) n q h)
