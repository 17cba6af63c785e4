-- A path followed through both names, and what the following call answers. Assumes nothing.
use Prim.Native.Nat.{ℕ, ◌+◌}
use mathlib.Core.Path.{◌≡◌, refl, sym, ap, ◌∙◌}
use mathlib.Core.Bool.{Bool, true, false}
use mathlib.Core.List.{List}
use mathlib.Core.Option as math
use lib.ListN.{length, take, drop}
use Rattle.std.specs.Prelude.{Ok}
use Rattle.std.specs.declared.option.Option.{Option as Answer}
use Rattle.std.specs.declared.option.Option.TheVariants.{None, Some}
use Rattle.tlv.specs.Lists.{guard, is_some}
use Rattle.lvs_spec.specs.Model.{Model, model_of}
use Rattle.lvs_spec.specs.Names.{Component}
use Rattle.lvs_spec.specs.Walk.{packet_row, key_row, no_bindings, Match, Pair, begin, lists, follow, follow_pair}
use Rattle.lvs_spec.specs.Answers.{bad, inputs, FollowAnswer, Refusal, followed, follow_with, follow_answer}
use Rattle.lvs_spec.specs.declared.refusal.Side.TheVariants.{Packet, Key}
use Rattle.lvs_spec.proofs.Follow.{other_length}
use Rattle.lvs_names.specs.Rows.{row_from}
use Rattle.lvs_names.specs.declared.Row.{Row}
use Rattle.lvs_bindings.specs.Names.{name_for}
use Rattle.lvs_bindings.specs.Slots.{clear, bindings_of}
use Rattle.lvs_bindings.specs.declared.Span.{Span}
use Rattle.lvs_bindings.proofs.Bound.{none_bound}
use Rattle.lvs_edges.specs.Sides.{row_for}
use Rattle.lvs_verdict.specs.Answers.{GoodInputs}
use Rattle.lvs_follow.specs.Answers.{follow_answer_of}
use Rattle.lvs_follow.specs.Following.{Led}

-- ---- both names

module _ (m : Model) (packet key path : List ℕ) (p k : Row) (count : length (row_from packet p.start) ≡ p.count) {before : List (Answer Span)}
    (clear-is : before ≡ clear) where
  abbrev ps : List Component
  ps = row_from packet p.start

  abbrev ks : List Component
  ks = row_from key k.start

  -- what the packet's words lead to
  packet_led : {o : math.Option Match} → follow m (row_for packet key Packet p.start) (take p.count path) (begin m (bindings_of packet key before)) ≡ o
      → follow m (packet_row ps) (take (length ps) path) (begin m no_bindings) ≡ o
  unfolding row_for name_for
  packet_led e = rw (none_bound packet key clear-is, ← count) at e

  pub packet_nowhere : {r : Answer ℕ} {after : List (Answer Span)} → Led m packet key Packet p.start (take p.count path) before r after → r ≡ None
      → false ≡ is_some (follow_pair m ps ks path)
  unfolding follow_pair
  packet_nowhere led e = sym (rw (packet_led (rw e at led.is)))

  module _ {q : Answer ℕ} {v : ℕ} {middle : List (Answer Span)} (first : Led m packet key Packet p.start (take p.count path) before q middle)
      (at-v : q ≡ Some v) where
    -- what the key's words, the rest, lead to
    module _ {rest : List ℕ} (rest_is : rest ≡ drop p.count path) where
      key_led : {o : math.Option Match} → follow m (row_for packet key Key k.start) rest (begin m (bindings_of packet key middle)) ≡ o
          → follow m (key_row ks) (drop (length ps) path) (begin m (bindings_of packet key middle)) ≡ o
      unfolding row_for name_for
      key_led e = rw (rest_is, ← count) at e

      pub key_nowhere : {r : Answer ℕ} {after : List (Answer Span)} → Led m packet key Key k.start rest middle r after → r ≡ None
          → false ≡ is_some (follow_pair m ps ks path)
      unfolding follow_pair
      key_nowhere led e = sym (rw (packet_led (rw at-v at first.is), key_led (rw e at led.is)))

      -- both arrive: the signer decides
      pub arrives : {r : Answer ℕ} {s : ℕ} {after : List (Answer Span)} {t : Bool} → Led m packet key Key k.start rest middle r after → r ≡ Some s
          → t ≡ lists m v s → t ≡ is_some (follow_pair m ps ks path)
      unfolding follow_pair
      arrives {s = s} second at-s e =
          e ∙ sym (rw (packet_led (rw at-v at first.is), key_led (rw at-s at second.is)) (go (lists m v s) _))
        where
          go : (t : Bool) (z : Pair) → is_some (guard t z) ≡ t
          go true z = refl
          go false z = refl

-- ---- what the following call answers

module _ (model packet key path : List ℕ) where
  pub follow_refused : {r : Refusal} → inputs model packet key ≡ bad r → follow_answer model packet key path ≡ FollowAnswer.refused r
  unfolding follow_answer follow_with
  follow_refused e = ap (λ i. follow_with i path) e

  module _ {p k : Row} (g : GoodInputs model packet key p k) where
    follow_good : follow_answer model packet key path ≡
        followed (is_some (follow_pair (model_of model) (row_from packet p.start) (row_from key k.start) path))
    unfolding follow_answer follow_with
    follow_good = ap (λ i. follow_with i path) g.is

    -- a word for each component
    pub follow_length : (length path ≡ p.count + k.count → ⊥) → follow_answer model packet key path ≡ FollowAnswer.no
    unfolding followed
    follow_length n =
        let other = other_length (model_of model) (row_from packet p.start) (row_from key k.start) path
        (λ e. n (e ∙ rw (g.packet_row.count, g.key_row.count))) in
        follow_good ∙ rw other

    pub follow_decided : {t : Bool} → t ≡ is_some (follow_pair (model_of model) (row_from packet p.start) (row_from key k.start) path)
        → follow_answer model packet key path ≡ follow_answer_of (Ok t)
    unfolding followed
    follow_decided {t} e = follow_good ∙ ap followed (sym e) ∙ go t
      where
        go : (t : Bool) → followed t ≡ follow_answer_of (Ok t)
        go true = refl
        go false = refl
