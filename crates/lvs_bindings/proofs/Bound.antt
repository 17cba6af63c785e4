-- What a Tag's span stands for. Assumes nothing.
use Prim.Native.Nat.{ℕ, zero, suc, min, ◌-◌, ◌≤◌, ◌<◌}
use mathlib.Core.Path.{◌≡◌, refl, sym, ap, ◌∙◌}
use mathlib.Core.List.{List}
use mathlib.Core.Option.{none, some}
use native.Mathlib.Omega.{arith}
use borrow.Author.Tests.{lt-ltb, le-ltb, ltb-true, ltb-false, le-leb, leb-true, leb-false}
use Rattle.std.proofs.Common.{nat_le}
use mathlib.Core.Bool.{Bool, true, false}
use lib.Dec.{ltb}
use Rattle.lvs_spec.proofs.Lists.{clash}
use lib.ListN.{length, get_or, set, take, drop, length-drop, get_or-map, get_or-eq_default, drop_of_length-le}
use lib.Seq.{take_all, set_out, set-set, set-get_or}
use Rattle.std.proofs.lemmas.List.{map-set}
use Rattle.std.proofs.lemmas.Option.{cond_some}
use Rattle.std.specs.declared.option.Option.{Option}
use Rattle.std.specs.declared.option.Option.TheVariants.{None, Some}
use Rattle.lvs_spec.specs.Limits.{max_tag}
use Rattle.lvs_spec.specs.Walk.{Bindings, no_bindings, bound, bind_tag}
use Rattle.lvs_bindings.specs.Names.{text_from}
use Rattle.lvs_bindings.specs.Slots.{clear, IndexOf, binding_at, binding, bindings_of, slot_at, bound_tag, bound_slots, cleared_slots, without}
use Rattle.lvs_bindings.specs.declared.Span.{Span}

-- ---- where a Tag's span is

pub tag_none : (tag : ℕ) → IndexOf tag None → bound_tag tag ≡ None
unfolding bound_tag
tag_none zero h = refl
tag_none (suc i) h = rw (le-ltb i max_tag (omega (arith, h))) refl

pub tag_some : (tag i : ℕ) → IndexOf tag (Some i) → bound_tag tag ≡ Some tag
unfolding bound_tag
tag_some tag i h = rw h.0 (rw (lt-ltb i max_tag h.1) refl)

module _ (slots : List (Option Span)) (all : length slots ≡ max_tag) where
  pub slot_none : (tag : ℕ) → IndexOf tag None → slot_at slots tag ≡ None
  unfolding slot_at
  slot_none zero h = refl
  slot_none (suc i) h = get_or-eq_default slots None {n = i} (omega (arith, h))

  pub slot_some : (tag i : ℕ) → IndexOf tag (Some i) → slot_at slots tag ≡ get_or slots i None
  unfolding slot_at
  slot_some tag i h = rw h.0 refl

  pub set_none : (tag : ℕ) (s : Span) → IndexOf tag None → bound_slots tag s slots ≡ slots
  unfolding bound_slots
  set_none zero s h = refl
  set_none (suc i) s h = set_out slots i (Some s) (omega (arith, h))

  pub set_some : (tag i : ℕ) (s : Span) → IndexOf tag (Some i) → bound_slots tag s slots ≡ set slots i (Some s)
  unfolding bound_slots
  set_some tag i s h = rw h.0 refl

  pub clear_none : (tag : ℕ) → IndexOf tag None → cleared_slots tag slots ≡ slots
  unfolding cleared_slots
  clear_none zero h = refl
  clear_none (suc i) h = set_out slots i None (omega (arith, h))

  pub clear_some : (tag i : ℕ) → IndexOf tag (Some i) → cleared_slots tag slots ≡ set slots i None
  unfolding cleared_slots
  clear_some tag i h = rw h.0 refl

-- a Tag that binding binds is the Tag itself, and in range
pub tag_bound : (tag : ℕ) {t : ℕ} → bound_tag tag ≡ Some t → (t ≡ tag) × ((0 < t) × (t ≤ max_tag))
unfolding bound_tag
tag_bound zero e = clash (cc)
tag_bound (suc i) {t} e =
    let (low, same) = cond_some (ltb i max_tag) (suc i) t e in
    (sym same, (omega (arith, same), omega (arith, same, ltb-true i max_tag low)))

-- one that it does not bind changes nothing
pub tag_unbound : (tag : ℕ) (s : Span) {slots : List (Option Span)} → length slots ≡ max_tag → bound_tag tag ≡ None → bound_slots tag s slots ≡ slots
unfolding bound_tag bound_slots
tag_unbound zero s l e = refl
tag_unbound (suc i) s {slots} l e = go (ltb i max_tag) refl
  where
    go : (u : Bool) → ltb i max_tag ≡ u → set slots i (Some s) ≡ slots
    go true q = clash (let g = rw q at e in cc)
    go false q = set_out slots i (Some s) (omega (arith, l, ltb-false i max_tag q))

-- ---- what a Tag is bound to

module _ (packet key : List ℕ) (slots : List (Option Span)) where
  slot_bound : (tag : ℕ) → bound (bindings_of packet key slots) tag ≡ binding packet key (slot_at slots tag)
  unfolding bound slot_at
  slot_bound zero = refl
  slot_bound (suc i) = get_or-map (binding packet key) slots i None

  pub unbound : (tag : ℕ) {r : Option Span} → r ≡ slot_at slots tag → r ≡ None → bound (bindings_of packet key slots) tag ≡ none
  unbound tag read e = slot_bound tag ∙ ap (binding packet key) (sym read ∙ e)

  pub is_bound : (tag : ℕ) {r : Option Span} {s : Span} → r ≡ slot_at slots tag → r ≡ Some s
      → bound (bindings_of packet key slots) tag ≡ some (binding_at packet key s.start s.size)
  is_bound tag read e = slot_bound tag ∙ ap (binding packet key) (sym read ∙ e)

  -- ---- binding a Tag, and unbinding it again

  pub bound_bindings : (count tag : ℕ) (s : Span) → tag ≤ count → bound (bindings_of packet key slots) tag ≡ none
      → bindings_of packet key (bound_slots tag s slots) ≡ bind_tag count (bindings_of packet key slots) tag (binding_at packet key s.start s.size)
  unfolding bound_slots bind_tag bound
  bound_bindings count zero s l f = refl
  bound_bindings count (suc i) s l f = rw (f, le-leb (suc i) count l) (map-set (binding packet key) slots i (Some s))

  pub cleared_bindings : (tag : ℕ) → bindings_of packet key (cleared_slots tag slots) ≡ without tag (bindings_of packet key slots)
  unfolding cleared_slots without
  cleared_bindings zero = refl
  cleared_bindings (suc i) = map-set (binding packet key) slots i None

  pub bound_back : (count tag : ℕ) (s : Span) → tag ≤ count → bound (bindings_of packet key slots) tag ≡ none
      → without tag (bindings_of packet key (bound_slots tag s slots)) ≡ bindings_of packet key slots
  unfolding bound_slots bound without
  bound_back count zero s l f = refl
  bound_back count (suc i) s l f =
      let b : Bindings = bindings_of packet key slots in
      ap (λ x. set x i none) (map-set (binding packet key) slots i (Some s)) ∙ set-set b i _ none ∙ ap (set b i) (sym f) ∙ set-get_or b i none

-- where nothing is bound
pub none_bound : (packet key : List ℕ) {slots : List (Option Span)} → slots ≡ clear → bindings_of packet key slots ≡ no_bindings
unfolding no_bindings
none_bound packet key e = rw e

-- ---- the text

-- a part that goes on to the end
pub to_end : (s : List ℕ) (a : ℕ) → take (length s - a) (drop a s) ≡ drop a s
to_end s a = take_all (length s - a) (drop a s) (simp length-drop (omega arith))

module _ (packet key : List ℕ) (p : ℕ) where
  pub text_packet : p < length packet → take (length packet - p) (drop p packet) ≡ text_from packet key p
  unfolding text_from
  text_packet h = to_end packet p ∙ rw (lt-ltb p (length packet) h)

  -- from k on, which is the place in the key's name or, past it, its end
  pub text_key : (k : ℕ) → length packet ≤ p → k ≡ min (p - length packet) (length key) → take (length key - k) (drop k key) ≡ text_from packet key p
  unfolding text_from
  text_key k h e = to_end key k ∙ rw (le-ltb p (length packet) h) (go (nat_le (length key) (p - length packet)) refl)
    where
      go : (t : Bool) → nat_le (length key) (p - length packet) ≡ t → drop k key ≡ drop (p - length packet) key
      go true q =
          let past : length key ≤ p - length packet = leb-true _ _ q in
          drop_of_length-le key {i = k} (omega arith) ∙ sym (drop_of_length-le key {i = p - length packet} past)
      go false q = let short = leb-false _ _ q in ap (λ i. drop i key) (omega arith)
