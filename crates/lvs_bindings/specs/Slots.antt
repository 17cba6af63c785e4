-- Bindings as the code holds them: for each Tag, where its component starts and its size. A start counts through the packet's name and then
-- through the key's, so that it says which name the component is in.
use Rattle.std.specs.Prelude.{ℕ, zero, suc, ◌-◌, ◌<◌, ◌≡◌, ◌⊎◌, cond, List, ◌++◌, map, ltb, length, drop, get_or, set, replicate}
use Rattle.std.specs.declared.option.Option.{Option}
use Rattle.std.specs.declared.option.Option.TheVariants.{None, Some}
use Rattle.std.proofs.Math.Option as math
use Rattle.lvs_spec.specs.Limits.{max_tag, binding_words}
use Rattle.lvs_spec.specs.Model.{component_of}
use Rattle.lvs_spec.specs.Walk.{packet_origin, key_origin, Binding, Bindings}
use Rattle.lvs_spec.specs.Answers.{tag_words, words, bound_count}
use Rattle.lvs_bindings.specs.Names.{text_from}
use Rattle.lvs_bindings.specs.declared.Span.{Span}

-- no Tag is bound
abbrev pub clear : List (Option Span)
clear = replicate max_tag None

-- the place in the name that it lies in
unfoldable pub place_in : List ℕ → ℕ → ℕ
place_in packet p = cond (ltb p (length packet)) p (p - length packet)

-- and which name that is
unfoldable pub origin_of : List ℕ → ℕ → ℕ
origin_of packet p = cond (ltb p (length packet)) packet_origin key_origin

-- a component of n bytes at a place of the two names
unfoldable pub binding_at : List ℕ → List ℕ → ℕ → ℕ → Binding
binding_at packet key p n =
    record {
      component = record { start = place_in packet p; size = n; content = component_of (text_from packet key p) };
      origin = origin_of packet p;
    }

-- what a Tag's span stands for
abbrev pub binding : List ℕ → List ℕ → Option Span → math.Option Binding
binding packet key None = math.none
binding packet key (Some s) = math.some (binding_at packet key s.start s.size)

abbrev pub bindings_of : List ℕ → List ℕ → List (Option Span) → Bindings
bindings_of packet key slots = map (binding packet key) slots

-- ---- the span of one Tag

-- where a Tag's span is; a Tag that is 0 or too large has none
abbrev pub IndexOf : ℕ → Option ℕ → Type 0
IndexOf tag (Some i) = (tag ≡ suc i) × (i < max_tag)
IndexOf tag None = (tag ≡ 0) ⊎ (max_tag < tag)

unfoldable pub slot_at : List (Option Span) → ℕ → Option Span
slot_at slots zero = None
slot_at slots (suc i) = get_or slots i None

-- the Tag that binding it binds: one that is out of range has no binding
unfoldable pub bound_tag : ℕ → Option ℕ
bound_tag zero = None
bound_tag (suc i) = cond (ltb i max_tag) (Some (suc i)) None

-- a Tag bound; one that is out of range is not
unfoldable pub bound_slots : ℕ → Span → List (Option Span) → List (Option Span)
bound_slots zero s slots = slots
bound_slots (suc i) s slots = set slots i (Some s)

-- a Tag unbound again
unfoldable pub cleared_slots : ℕ → List (Option Span) → List (Option Span)
cleared_slots zero slots = slots
cleared_slots (suc i) slots = set slots i None

-- the same of bindings
unfoldable pub without : ℕ → Bindings → Bindings
without zero s = s
without (suc i) s = set s i math.none

-- ---- the words for a caller, which do not depend on what the key's name holds

-- those of one Tag
pub record WordsOf (packet : List ℕ) (s : Option Span) (w : List ℕ) : Type 0 where
  pub are : (key : List ℕ) → w ≡ tag_words (binding packet key s)

-- those of all Tags written over the first ones of a buffer, and how many are bound
pub record Wrote (packet : List ℕ) (slots : List (Option Span)) (before : List ℕ) (count : ℕ) (after : List ℕ) : Type 0 where
  pub counted : (key : List ℕ) → count ≡ bound_count (bindings_of packet key slots)
  pub words_are : (key : List ℕ) → after ≡ words (bindings_of packet key slots) ++ drop binding_words before
