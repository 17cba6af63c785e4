-- The words for a caller, as their loop writes them. Assumes nothing.
use Prim.Native.Nat.{ℕ, suc, ◌+◌, ◌-◌, ◌*◌, ◌≤◌, ◌<◌}
use mathlib.Core.Path.{◌≡◌, refl, sym, ap, ap₂, ◌∙◌}
use mathlib.Core.Bool.{Bool}
use mathlib.Core.List.{List, [], ◌∷◌, ◌++◌}
use mathlib.Core.Option.{none, some}
use native.Mathlib.Omega.{arith}
use borrow.Author.Tests.{lt-ltb, le-ltb}
use borrow.Rule.Slice.PartMut.{mid_of, put_mid, same_len_mid}
use mir.Val.{bool_byte}
use lib.ListN.{length, drop, take, get_or, get_or-map}
use Rattle.std.proofs.lemmas.List.{length-map}
use lib.Seq.{take-suc, take_all, take_at, drop_at, drop-drop, length-take-le}
use Rattle.std.proofs.Math.Option as math
use Rattle.std.specs.Option.{is_some as read_some}
use Rattle.std.specs.declared.option.Option.{Option}
use Rattle.std.specs.declared.option.Option.TheVariants.{None, Some}
use Rattle.lvs_spec.specs.Limits.{max_tag}
use Rattle.lvs_spec.specs.Walk.{packet_origin, key_origin, Binding, Bindings}
use Rattle.lvs_spec.specs.Answers.{tag_words, words, bound_count}
use Rattle.lvs_spec.proofs.Buffer.{words_length}
use Rattle.lvs_bindings.specs.Slots.{place_in, origin_of, binding_at, binding, bindings_of, WordsOf, Wrote}
use Rattle.lvs_bindings.specs.declared.Span.{Span}

-- ---- one Tag

module _ (packet : List ℕ) where
  pub words_none : WordsOf packet None (0 ∷ 0 ∷ 0 ∷ [])
  unfolding tag_words
  words_none = record { are = λ key. refl }

  pub words_packet : (s : Span) → s.start < length packet → WordsOf packet (Some s) (s.start ∷ s.size ∷ packet_origin ∷ [])
  unfolding binding_at place_in origin_of tag_words
  words_packet s h = record { are = λ key. rw (lt-ltb s.start (length packet) h) }

  pub words_key : (s : Span) → length packet ≤ s.start → WordsOf packet (Some s) ((s.start - length packet) ∷ s.size ∷ key_origin ∷ [])
  unfolding binding_at place_in origin_of tag_words
  words_key s h = record { are = λ key. rw (le-ltb s.start (length packet) h) }

-- one more of them
pub one_if : Option Span → ℕ
one_if None = 0
one_if (Some s) = 1

one_more : (packet key : List ℕ) (o : Option Span) (s : Bindings) → bound_count (s ++ (binding packet key o ∷ [])) ≡ bound_count s + one_if o
unfolding bound_count one_if
one_more packet key None [] = refl
one_more packet key (Some x) [] = refl
one_more packet key o (none ∷ s) = one_more packet key o s
one_more packet key o (some d ∷ s) = omega (arith, one_more packet key o s)

pub one_read : (o : Option Span) {t : Bool} {b : ℕ} → t ≡ read_some o → b ≡ bool_byte t → b ≡ one_if o
unfolding one_if
one_read None e f = f ∙ ap bool_byte e
one_read (Some s) e f = f ∙ ap bool_byte e

one_few : (o : Option Span) → one_if o ≤ 1
unfolding one_if
one_few None = omega arith
one_few (Some s) = omega arith

-- ---- the loop that writes them

words_more : (s : Bindings) (o : math.Option Binding) (rest : List ℕ) → words (s ++ (o ∷ [])) ++ rest ≡ words s ++ (tag_words o ++ rest)
unfolding words tag_words
words_more [] none rest = refl
words_more [] (some d) rest = refl
words_more (none ∷ s) o rest = ap (λ (r : List ℕ). 0 ∷ 0 ∷ 0 ∷ r) (words_more s o rest)
words_more (some d ∷ s) o rest = ap (λ (r : List ℕ). d.component.start ∷ d.component.size ∷ d.origin ∷ r) (words_more s o rest)

pub record Written (packet : List ℕ) (slots : List (Option Span)) (before buffer : List ℕ) (bound i : ℕ) : Type 0 where
  pub long : length buffer ≡ length before
  pub copied : (key : List ℕ) → buffer ≡ words (take i (bindings_of packet key slots)) ++ drop (i * 3) before
  pub counted : (key : List ℕ) → bound ≡ bound_count (take i (bindings_of packet key slots))
  pub few : bound ≤ i

pub written_first : (packet : List ℕ) (slots : List (Option Span)) (before : List ℕ) → Written packet slots before before 0 0
unfolding words bound_count
written_first packet slots before = record { long = refl; copied = λ key. refl; counted = λ key. refl; few = omega arith }

module _ {packet : List ℕ} {slots : List (Option Span)} {before buffer : List ℕ} {bound i : ℕ} (W : Written packet slots before buffer bound i)
    (all : length slots ≡ max_tag) where
  -- the bindings of one Tag more
  taken : i < max_tag → (key : List ℕ)
      → take (i + 1) (bindings_of packet key slots) ≡ take i (bindings_of packet key slots) ++ (binding packet key (get_or slots i None) ∷ [])
  taken h key =
      let S : Bindings = bindings_of packet key slots in
      let e : i + 1 ≡ suc i = omega arith in
      let n : length S ≡ length slots = length-map slots (binding packet key) in
      rw e (take-suc S i none (omega arith) ∙ ap (λ o. take i S ++ (o ∷ [])) (get_or-map (binding packet key) slots i None))

  pub written_next : i < max_tag → {w : List ℕ} {b : ℕ} → WordsOf packet (get_or slots i None) w → b ≡ one_if (get_or slots i None)
      → length w ≡ length (mid_of (i * 3) (i * 3 + 3 - i * 3) buffer)
      → Written packet slots before (put_mid (i * 3) (i * 3 + 3 - i * 3) buffer w) (bound + b) (i + 1)
  written_next h {w} {b} w-is b-is w-long =
      record {
        long = same_len_mid (i * 3) (i * 3 + 3 - i * 3) buffer w w-long ∙ W.long;
        copied = copied;
        counted = λ key. rw (taken h key)
            (omega (arith, W.counted key, b-is, one_more packet key (get_or slots i None) (take i (bindings_of packet key slots))));
        few = omega (arith, W.few, one_few (get_or slots i None));
      }
    where
      copied : (key : List ℕ) → put_mid (i * 3) (i * 3 + 3 - i * 3) buffer w ≡ words (take (i + 1) (bindings_of packet key slots)) ++ drop ((i + 1) * 3) before
      copied key =
          let S : Bindings = bindings_of packet key slots in
          let n : length S ≡ length slots = length-map slots (binding packet key) in
          let l : length (words (take i S)) ≡ i * 3 = words_length (take i S) ∙ ap (λ n. n * 3) (length-take-le i S (omega arith)) in
          let rest : List ℕ = drop ((i + 1) * 3) before in
          let k : i * 3 + (i * 3 + 3 - i * 3) ≡ (i + 1) * 3 = omega arith in
          let front : take (i * 3) buffer ≡ words (take i S) = ap (take (i * 3)) (W.copied key) ∙ take_at (words (take i S)) _ (i * 3) l in
          let back : drop (i * 3 + 3 - i * 3) (drop (i * 3) buffer) ≡ rest =
          ap (λ r. drop (i * 3 + 3 - i * 3) (drop (i * 3) r)) (W.copied key)
          ∙ ap (drop (i * 3 + 3 - i * 3)) (drop_at (words (take i S)) _ (i * 3) l) ∙ drop-drop (i * 3 + 3 - i * 3) (i * 3) before
          ∙ ap (λ m. drop m before) k in
          ap₂ (λ x y. x ++ (w ++ y)) front back ∙ ap (λ ws. words (take i S) ++ (ws ++ rest)) (w-is.are key) ∙
          sym (rw (taken h key) (words_more (take i S) _ rest))

  pub written_all : i ≡ max_tag → Wrote packet slots before bound buffer
  written_all e =
      let n : (key : List ℕ) → length (bindings_of packet key slots) ≡ length slots = λ key. length-map slots (binding packet key) in
      let all_taken : (key : List ℕ) → take i (bindings_of packet key slots) ≡ bindings_of packet key slots =
      λ key. take_all i (bindings_of packet key slots) (omega (arith, n key)) in
      record {
        counted = λ key. W.counted key ∙ ap bound_count (all_taken key);
        words_are = λ key. W.copied key ∙ ap₂ (λ s n. words s ++ drop (n * 3) before) (all_taken key) e;
      }
