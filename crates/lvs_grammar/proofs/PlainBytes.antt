-- Leaves: what each test on the bytes says of the definition. Assumes nothing.
use Prim.Native.Nat.{ℕ, ◌+◌, ◌-◌, ◌≤◌, ◌<◌}
use mathlib.Core.Path.{◌≡◌, refl, sym, ap, subst, ◌∙◌}
use mathlib.Core.Bool.{Bool, true, false, cond, ◌&&◌}
use mathlib.Core.List.{List, [], ◌∷◌}
use mathlib.Core.Option.{some}
use native.Mathlib.Omega.{arith}
use borrow.Author.Tests.{eqb-true, eqb-false, eq-eqb, ne_eqb}
use lib.Dec.{leb, eqb}
use lib.ListN.{length, get_or, take, drop, length-drop}
use lib.Seq.{take_all}
use Rattle.std.specs.Prelude.{is_some}
use Rattle.std.specs.List.{list_all}
use Rattle.tlv.specs.Number.{integer_size, integer}
use Rattle.tlv.specs.Element.{Element, First, end, malformed, first, element}
use Rattle.tlv.specs.Answers.{read_at, read_from, integer_of}
use Rattle.tlv.specs.declared.Place.{Place}
use Rattle.tlv.specs.declared.Read.{Read}
use Rattle.tlv.specs.declared.Read.TheVariants.{Found, End, Malformed}
use Rattle.tlv.proofs.Cuts.{Whole, element_whole}
use Rattle.tlv.proofs.Iterated.{all_same}
use Rattle.lvs_spec.specs.Limits.{max_component_type}
use Rattle.lvs_spec.specs.Places.{must, from, value_fault}
use Rattle.lvs_spec.specs.Leaves.{is_component, letter, letter_or_digit, identifier, marked}

-- ---- integers

-- an integer is read off just the sizes that are right
pub sized : (s : List ℕ) → is_some (integer_of s) ≡ integer_size (length s)
unfolding integer_of integer
sized s = go (integer_size (length s)) refl
  where
    go : (b : Bool) → integer_size (length s) ≡ b → is_some (integer_of s) ≡ integer_size (length s)
    go true e = rw (e, integer_of, integer)
    go false e = rw (e, integer_of, integer)

-- ---- one component

behind : (s : List ℕ) (h : ℕ) (e : Element) (rest : List ℕ) → Whole s h e rest → eqb (length rest) 0 ≡ eqb (0 + h + length e.inside) (length s)
behind s h e rest w =
    let l : length rest ≡ length s - (h + w.size) = ap length w.rest_is ∙ length-drop (h + w.size) s in
    go l (eqb (length rest) 0) refl
  where
    go : length rest ≡ length s - (h + w.size) → (b : Bool) → eqb (length rest) 0 ≡ b → eqb (length rest) 0 ≡ eqb (0 + h + length e.inside) (length s)
    go l true q = let z = eqb-true (length rest) 0 q in q ∙ sym (eq-eqb (0 + h + length e.inside) (length s) (omega arith))
    go l false q =
        q ∙ sym (ne_eqb (0 + h + length e.inside) (length s) (λ (x : 0 + h + length e.inside ≡ length s). eqb-false (length rest) 0 q (omega arith)))

-- what each answer at the first place says of a Value whose inside starts at a place
abbrev Valued : List ℕ → ℕ → Read → Type 0
Valued s start (Found t a e n) = from start (value_fault (element s)) ≡ cond (leb t max_component_type) (must (eqb e (length s)) (start + e)) (some start)
Valued s start End = from start (value_fault (element s)) ≡ some start
Valued s start Malformed = from start (value_fault (element s)) ≡ some start

must_from : (t : Bool) (start p : ℕ) → from start (must t p) ≡ must t (start + p)
must_from true start p = refl
must_from false start p = refl

valued_at : (s : List ℕ) (start : ℕ) → Valued s start (read_at s 0)
unfolding read_at value_fault is_component
valued_at s start = go (element s) refl
  where
    first_place : from start (some 0) ≡ some start
    first_place = let e : start + 0 ≡ start = omega arith in rw e

    test : (t u : Bool) (p : ℕ) → from start (cond t (must u p) (some 0)) ≡ cond t (must u (start + p)) (some start)
    test true u p = must_from u start p
    test false u p = first_place

    go : (f : First) → element s ≡ f → Valued s start (read_from 0 f)
    go end p = rw p first_place
    go malformed p = rw p first_place
    go (first h e rest) p =
        let past : h + length e.inside ≡ 0 + h + length e.inside = omega arith in
        rw (p, behind s h e rest (element_whole s h e rest p), past)
        (test (leb e.type max_component_type) (eqb (0 + h + length e.inside) (length s)) (0 + h + length e.inside))

module _ (s : List ℕ) (start : ℕ) {r : Read} (e : r ≡ read_at s 0) where
  valued : {a : Read} → r ≡ a → Valued s start a
  valued f = subst (Valued s start) (sym e ∙ f) (valued_at s start)

  pub valued_found : {t a z : ℕ} {n : Place} → r ≡ Found t a z n
      → from start (value_fault (element s)) ≡ cond (leb t max_component_type) (must (eqb z (length s)) (start + z)) (some start)
  valued_found f = valued f

  pub valued_else : ((t a z : ℕ) (n : Place) → r ≡ Found t a z n → ⊥) → from start (value_fault (element s)) ≡ some start
  valued_else other = go r refl
    where
      go : (a : Read) → r ≡ a → from start (value_fault (element s)) ≡ some start
      go (Found t a z n) f = absurd (other t a z n f)
      go End f = valued f
      go Malformed f = valued f

-- ---- identifiers

pub identifier_empty : (s : List ℕ) → length s < 1 → identifier s ≡ false
unfolding identifier
identifier_empty [] h = refl
identifier_empty (x ∷ xs) h = absurd (omega arith)

-- the first byte, and what an iterator over the others has tested
pub identifier_some : (s : List ℕ) → 1 ≤ length s
    → identifier s ≡ (letter (get_or s 0 0) && list_all letter_or_digit (take (length s - 1) (drop 1 s)))
unfolding identifier
identifier_some [] h = absurd (omega arith)
identifier_some (x ∷ xs) h =
    let rest : take (length (x ∷ xs) - 1) xs ≡ xs = take_all (length (x ∷ xs) - 1) xs (omega arith) in
    ap (λ (b : Bool). letter x && b) (sym (all_same letter_or_digit xs) ∙ ap (list_all letter_or_digit) (sym rest))

pub marked_empty : (m : ℕ) (s : List ℕ) → length s < 1 → marked m s ≡ false
unfolding marked
marked_empty m [] h = refl
marked_empty m (x ∷ xs) h = absurd (omega arith)

pub marked_some : (m : ℕ) (s : List ℕ) → 1 ≤ length s → marked m s ≡ (eqb (get_or s 0 0) m && identifier (take (length s - 1) (drop 1 s)))
unfolding marked
marked_some m [] h = absurd (omega arith)
marked_some m (x ∷ xs) h = ap (λ (b : Bool). eqb x m && b) (ap identifier (sym (take_all (length (x ∷ xs) - 1) xs (omega arith))))
