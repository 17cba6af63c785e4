-- One turn of each reading loop: what stands at a place, and what the answer from there on is. Assumes nothing.
use Prim.Native.Nat.{ℕ, zero, suc, ◌+◌, ◌-◌, ◌≤◌}
use mathlib.Core.Path.{◌≡◌, refl, sym, ap, ◌∙◌}
use mathlib.Core.Bool.{Bool, true, false, cond, false≢true}
use mathlib.Core.List.{List, [], ◌∷◌}
use mathlib.Core.Option.{Option, none, some}
use native.Mathlib.Omega.{arith}
use lib.ListN.{length, take, drop, length-drop}
use lib.Seq.{length-take-le}
use Rattle.tlv.specs.Element.{Element, Cuts, done, broken, next, cuts}
use Rattle.tlv.specs.Fields.{each_cut, elements}
use Rattle.tlv.specs.Answers.{read_at}
use Rattle.tlv.specs.declared.Place.{Place}
use Rattle.tlv.specs.declared.Read.{Read}
use Rattle.tlv.specs.declared.Read.TheVariants.{Found, End, Malformed}
use Rattle.tlv.proofs.Cuts.{first_seen}
use Rattle.tlv.specs.Lists.{is}
use Rattle.lvs_spec.specs.Grammar as grammar
use Rattle.lvs_spec.specs.Grammar.{Kind, meaning, order, step, final}
use Rattle.lvs_spec.specs.WellFormed.{first_known, is_other_version, other_version}
use Rattle.lvs_spec.specs.Places.{must, from, Placed, item, placed, leaf_fault, inside_fault, fault_from, fault_by}
use Rattle.lvs_spec.proofs.Places.{by_within, placed_end, placed_malformed, placed_next, fault_optional, fault_critical, fault_known, fault_known_lem}
use Rattle.lvs_spec.proofs.Version.{first_optional, first_critical, first_known_lem}
use Rattle.std.specs.Prelude.{Option as Answer, Some, None, Result, Ok, Err, IfErr}
use Rattle.lvs_grammar.specs.declared.faults.Fault.{Fault}
use Rattle.lvs_grammar.specs.Faults.{fault_of}
use Rattle.lvs_grammar.specs.declared.types.Kind as kinds
use Rattle.lvs_grammar.specs.declared.types.Leaf.{Leaf}
use Rattle.lvs_grammar.specs.declared.types.Known as knowns
use Rattle.lvs_grammar.specs.declared.types.Known.TheVariants.{Plain, Container}
use Rattle.lvs_grammar.specs.declared.types.Meaning.{Meaning}
use Rattle.lvs_grammar.specs.declared.types.Meaning.TheVariants.{Optional, Critical, Known}
use Rattle.lvs_grammar.specs.Types.{kind_of, leaf_of, known_of, meaning_of, is_optional}
use Rattle.lvs_grammar.specs.States.{left_behind}

-- the element between two places of a list
abbrev part : List ℕ → ℕ → ℕ → ℕ → Element
part s t a b = record { type = t; inside = take (b - a) (drop a s) }

-- ---- the inside of a container

-- the first fault from a place on, in a state of the order
unfoldable pub fault_after : ℕ → Kind → ℕ → List ℕ → ℕ → Option ℕ
fault_after n k q s at = fault_from (fault_by n) k (drop q (order k)) (placed at (drop at s))

pub fault_deep : (d : ℕ) (k : Kind) (s : List ℕ) → d ≡ 0 → some 0 ≡ fault_by d k s
unfolding fault_by
fault_deep d k s h = rw h

pub fault_below : (d : ℕ) (k : Kind) (s : List ℕ) → (d ≡ 0 → ⊥) → fault_by (suc (d - 1)) k s ≡ fault_by d k s
fault_below zero k s h = absurd (h refl)
fault_below (suc n) k s h = let e : suc n - 1 ≡ n = omega arith in rw e

pub fault_start : (n : ℕ) (k : Kind) (s : List ℕ) → fault_by (suc n) k s ≡ fault_after n k 0 s 0
unfolding fault_after fault_by
fault_start n k s = refl

module _ (n : ℕ) (k : Kind) (q : ℕ) (s : List ℕ) (at : ℕ) {r : Read} (e : r ≡ read_at s at) where
  pub fault_end : {b : Bool} → r ≡ End → b ≡ final (drop q (order k)) → fault_after n k q s at ≡ must b at
  unfolding fault_after fault_from
  fault_end f g = rw (placed_end at (drop at s) (first_seen s at e f), g)

  pub fault_broken : r ≡ Malformed → fault_after n k q s at ≡ some at
  unfolding fault_after fault_from
  fault_broken f = rw (placed_malformed at (drop at s) (first_seen s at e f))

  module _ {t a b : ℕ} {p : Place} (f : r ≡ Found t a b p) (m : Meaning) (g : meaning_of m ≡ meaning t) where
    abbrev rest : Placed
    rest = placed p.at (drop p.at s)

    cut : fault_after n k q s at ≡ fault_from (fault_by n) k (drop q (order k)) (item at a (part s t a b) rest)
    unfolding fault_after
    cut =
        let z = first_seen s at e f in
        let x : at + (a - at) ≡ a = omega (arith, z.before) in
        let l : length (take (b - a) (drop a s)) ≡ b - a = length-take-le (b - a) (drop a s) (rw (length-drop a s) (omega (arith, z.order, z.within))) in
        let y : a + (b - a) ≡ b = omega (arith, z.order) in
        rw (placed_next at (drop at s) (a - at) (part s t a b) (drop b s) z.first_is, x, l, y, z.moved)

    pub fault_skips : m ≡ Optional → fault_after n k q s at ≡ fault_after n k q s p.at
    unfolding fault_after
    fault_skips h = cut ∙ fault_optional (fault_by n) k (drop q (order k)) at a (part s t a b) rest (sym g ∙ ap meaning_of h)

    pub fault_at_critical : m ≡ Critical → fault_after n k q s at ≡ some at
    fault_at_critical h = cut ∙ fault_critical (fault_by n) k (drop q (order k)) at a (part s t a b) rest (sym g ∙ ap meaning_of h)

    module _ {w : knowns.Known} (h : m ≡ Known w) (x : Answer ℕ) (i : left_behind k x ≡ step (drop q (order k)) t) where
      known : fault_after n k q s at ≡ fault_known (fault_by n) k (known_of w) at a (part s t a b) rest (left_behind k x)
      known =
          cut
          ∙ fault_known_lem (fault_by n) k (drop q (order k)) at a (part s t a b) rest (known_of w) (sym g ∙ ap meaning_of h)
          ∙ ap (fault_known (fault_by n) k (known_of w) at a (part s t a b) rest) (sym i)

      pub fault_refused : x ≡ None → fault_after n k q s at ≡ some at
      unfolding fault_known
      fault_refused j = known ∙ rw j

      -- what it holds has a fault, or has none
      module _ {q' : ℕ} (j : x ≡ Some q') {o : Option ℕ} (l : o ≡ inside_fault (fault_by n) k (known_of w) at a (take (b - a) (drop a s))) where
        inside_fault_lem : {z : ℕ} → o ≡ some z → fault_after n k q s at ≡ some z
        unfolding fault_known
        inside_fault_lem v = known ∙ rw (j, fault_known, sym l ∙ v)

        inside_on : o ≡ none → fault_after n k q s at ≡ fault_after n k q' s p.at
        unfolding fault_known fault_after
        inside_on v = known ∙ rw (j, fault_known, sym l ∙ v)

      module _ {q' : ℕ} (j : x ≡ Some q') {y : Leaf} (u : w ≡ Plain y) {o : Option ℕ} (l : o ≡ leaf_fault k (leaf_of y) at a (take (b - a) (drop a s))) where
        held : o ≡ inside_fault (fault_by n) k (known_of w) at a (take (b - a) (drop a s))
        unfolding inside_fault
        held = rw u l

        pub plain_fault : {z : ℕ} → o ≡ some z → fault_after n k q s at ≡ some z
        plain_fault v = inside_fault_lem j held v

        pub plain_on : o ≡ none → fault_after n k q s at ≡ fault_after n k q' s p.at
        plain_on v = inside_on j held v

      module _ {q' : ℕ} (j : x ≡ Some q') {y : kinds.Kind} (u : w ≡ Container y) {o : Option ℕ}
          (l : o ≡ from a (fault_by n (kind_of y) (take (b - a) (drop a s)))) where
        entered : o ≡ inside_fault (fault_by n) k (known_of w) at a (take (b - a) (drop a s))
        unfolding inside_fault
        entered = rw u l

        pub container_fault : {z : ℕ} → o ≡ some z → fault_after n k q s at ≡ some z
        container_fault v = inside_fault_lem j entered v

        pub container_on : o ≡ none → fault_after n k q s at ≡ fault_after n k q' s p.at
        container_on v = inside_on j entered v

-- a fault in a part is one of the whole
pub part_within : (most start d : ℕ) (k : Kind) (s : List ℕ) (r : Result (Unit {0}) Fault) → fault_of r ≡ fault_by d k s → start + length s ≤ most
    → IfErr r (λ fault. start + fault.place ≤ most)
part_within most start d k s (Ok u) e h = tt
part_within most start d k s (Err x) e h = omega (arith, by_within d k s (sym e), h)

-- a part of what is short is short
pub part_short : (s : List ℕ) (a b most : ℕ) → a ≤ b → b ≤ length s → length s ≤ most → a + length (take (b - a) (drop a s)) ≤ most
part_short s a b most o w h = rw (length-take-le (b - a) (drop a s) (rw (length-drop a s) (omega arith))) (omega arith)

-- ---- the first element that is not optional

first_skips : (e : Element) (c : Cuts) → is_optional (meaning e.type) ≡ true → first_known (next e c) ≡ first_known c
first_skips e c h = go (meaning e.type) refl
  where
    go : (m : grammar.Meaning) → meaning e.type ≡ m → first_known (next e c) ≡ first_known c
    go grammar.optional q = first_optional e c q
    go grammar.critical q = absurd (false≢true (rw q at h))
    go (grammar.known w) q = absurd (false≢true (rw q at h))

first_is : (e : Element) (c : Cuts) → is_optional (meaning e.type) ≡ false → first_known (next e c) ≡ some e
first_is e c h = go (meaning e.type) refl
  where
    go : (m : grammar.Meaning) → meaning e.type ≡ m → first_known (next e c) ≡ some e
    go grammar.optional q = absurd (false≢true (sym (rw q at h)))
    go grammar.critical q = first_critical e c q
    go (grammar.known w) q = first_known_lem e c w q

-- the first of these that is not optional
unfoldable pub first_of : List Element → Option Element
first_of [] = none
first_of (e ∷ es) = cond (is_optional (meaning e.type)) (first_of es) (some e)

first_listed : (c : Cuts) → first_of (each_cut (λ e. e ∷ []) c) ≡ first_known c
unfolding first_of each_cut first_known
first_listed done = refl
first_listed broken = refl
first_listed (next e c) = go (is_optional (meaning e.type)) refl (first_listed c)
  where
    go : (t : Bool) → is_optional (meaning e.type) ≡ t → first_of (each_cut (λ e. e ∷ []) c) ≡ first_known c
        → first_of (e ∷ each_cut (λ e. e ∷ []) c) ≡ first_known (next e c)
    go true q r = rw q (r ∙ sym (first_skips e c q))
    go false q r = rw q (sym (first_is e c q))

-- the answer by elements that are left
unfoldable pub other_among : List Element → Bool
other_among es = is is_other_version (first_of es)

pub other_all : (b : List ℕ) → other_among (elements b) ≡ other_version b
unfolding other_among other_version elements
other_all b = ap (is is_other_version) (first_listed (cuts b))

pub other_none : other_among [] ≡ false
unfolding other_among first_of
other_none = refl

module _ (e : Element) (es : List Element) where
  pub other_skips : is_optional (meaning e.type) ≡ true → other_among (e ∷ es) ≡ other_among es
  unfolding other_among first_of
  other_skips q = rw q

  pub other_first : is_optional (meaning e.type) ≡ false → other_among (e ∷ es) ≡ is_other_version e
  unfolding other_among first_of
  other_first q = rw q
