-- Temporary Tags, those above the count of named ones (docs/format.md, 7.1): never bound, so that they are never compared, and no option or
-- argument that names one holds. Assumes nothing.
use Prim.Native.Nat.{ℕ, zero, suc, ◌≤◌, ◌<◌}
use mathlib.Core.Path.{◌≡◌, refl, sym, ap, ◌∙◌, subst}
use mathlib.Core.Bool.{false}
use mathlib.Core.List.{List, [], ◌∷◌, Memᴰ}
use mathlib.Core.Option.{none, some}
use native.Mathlib.Omega.{arith}
use borrow.Author.Tests.{le-ltb}
use lib.ListN.{get_or}
use lib.Seq.{get_or-set_other}
use Rattle.tlv.specs.Element.{Element}
use Rattle.tlv.specs.Lists.{all}
use Rattle.lvs_spec.specs.Limits.{max_tag}
use Rattle.lvs_spec.specs.Model.{Model, Edge, PatternEdge, Term, Call, Argument, model_of}
use Rattle.lvs_spec.specs.Verdict.{Function, eq, eqType, isValidId, isValidYear, function_of, arity}
use Rattle.lvs_spec.specs.Names.{Component}
use Rattle.lvs_spec.specs.Walk.{Binding, packet_row, key_row, Bindings, no_bindings, bound, bind_tag, bound_to, argument_in, holds, call_holds, term_holds}
use Rattle.lvs_spec.specs.Walk.{constraint_holds, crosses, bindings_after, Match, begin, matches, packet_trace, key_trace, packet_matches, key_matches}
use Rattle.lvs_spec.specs.Answers.{tag_words, bound_count, Buffers}
use Rattle.lvs_spec.specs.Demands.{words_at, OnlyNamed}
use Rattle.lvs_spec.proofs.Lists.{clash, first_in}
use Rattle.lvs_spec.proofs.Trace.{walk_keeps}
use Rattle.lvs_spec.proofs.Usable.{usable_model_lem}
use Rattle.lvs_spec.proofs.Matching.{MatchedBy}
use Rattle.lvs_spec.proofs.Signing.{SignedBy}
use Rattle.lvs_spec.proofs.Buffer.{matched_at, signed_at}
use Rattle.lvs_spec.proofs.Bindings.{Changed, stays, fills, after_changed, cross_changed, none_there}

-- ---- only named Tags are ever bound

named_changed : {count : ℕ} {s : Bindings} {b : Binding} {r : Bindings} → OnlyNamed count s → Changed count s b r → OnlyNamed count r
unfolding bound
named_changed {count} p (stays k) = subst (OnlyNamed count) (sym k) p
named_changed {count} {s} {r = r} p (fills j l _ k) = record { temporary = go }
  where
    go : (t : ℕ) → count < t → bound r t ≡ none
    go zero h = refl
    go (suc i) h = rw k (get_or-set_other s j i _ none (omega arith) ∙ p.temporary (suc i) h)

-- crossing an edge binds no temporary Tag
pub named_after : (count : ℕ) (s : Bindings) (b : Binding) (e : Edge) {r : Bindings} → OnlyNamed count s → bindings_after count s b e ≡ some r
    → OnlyNamed count r
named_after count s b e p h = named_changed p (after_changed count s b e h)

-- where no Tag is bound
pub none_named : (count : ℕ) → OnlyNamed count no_bindings
unfolding no_bindings bound
none_named count = record { temporary = go }
  where
    go : (t : ℕ) → count < t → bound no_bindings t ≡ none
    go zero h = refl
    go (suc i) h = none_there max_tag i

module _ (m : Model) where
  abbrev Named : Match → Type 0
  Named x = OnlyNamed m.pattern_count x.bindings

  -- in every match of a packet name, and of a key name after it
  pub packet_named : (packet : List Component) {x : Match} → Memᴰ x (packet_matches m packet) → Named x
  unfolding packet_matches packet_trace matches begin
  packet_named packet i =
      walk_keeps m Named (packet_row packet) (λ c _ x n e y _ h p. named_changed p (cross_changed m c x n e h)) (begin m no_bindings) (none_named _) i

  pub key_named : (packet key : List Component) {x y : Match} → Memᴰ x (packet_matches m packet) → Memᴰ y (key_matches m key x) → Named y
  unfolding key_matches key_trace matches begin
  key_named packet key {x} i j =
      walk_keeps m Named (key_row key) (λ c _ x n e y _ h p. named_changed p (cross_changed m c x n e h)) (begin m x.bindings) (packet_named packet i) j

-- ---- what follows for an edge, an option and an argument

module _ {count : ℕ} {s : Bindings} (named : OnlyNamed count s) (c : Element) where
  -- an edge with a temporary Tag is crossed where its Constraints hold
  pub temporary_crosses : (e : PatternEdge) → count < e.tag → crosses s c e ≡ all (constraint_holds s c) e.constraints
  unfolding crosses
  temporary_crosses e h = rw (named.temporary e.tag h)

  -- an option that names one does not hold
  pub temporary_option : {t : ℕ} → count < t → term_holds s c (Term.tag t) ≡ false
  unfolding term_holds bound_to
  temporary_option {t} h = rw (named.temporary t h)

  temporary_argument : {t : ℕ} → count < t → argument_in s (Argument.tag t) ≡ none
  unfolding argument_in
  temporary_argument {t} h = rw (named.temporary t h)

  -- nor does the call of a function with one as its argument
  pub temporary_call : {t : ℕ} (f : Call) {g : Function} → count < t → function_of f.function ≡ some g → arity g ≡ 1
      → f.arguments ≡ Argument.tag t ∷ [] → call_holds s c f ≡ false
  unfolding call_holds holds arity
  temporary_call {t} f {g} h known one given = rw (known, given, temporary_argument h) (go g one)
    where
      go : (g : Function) → arity g ≡ 1 → holds g c (none ∷ []) ≡ false
      go eq e = refl
      go eqType e = refl
      go isValidId e = absurd (omega (arith, e))
      go isValidYear e = absurd (omega (arith, e))

-- and the bindings stay
pub temporary_stays : (count : ℕ) (s : Bindings) (t : ℕ) (b : Binding) → count < t → bind_tag count s t b ≡ s
unfolding bind_tag
temporary_stays count s zero b h = refl
temporary_stays count s (suc i) b h = rw (le-ltb i count (omega arith))

-- ---- what follows for a match

few : (s : Bindings) (count : ℕ) → ((i : ℕ) → count ≤ i → get_or s i none ≡ none) → bound_count s ≤ count
unfolding bound_count
few [] count h = omega arith
few (none ∷ s) zero h = few s zero (λ i l. h (suc i) (omega arith))
few (some d ∷ s) zero h = let e = h 0 (omega arith) in clash (cc)
few (none ∷ s) (suc count) h = let l = few s count (λ i l. h (suc i) (omega arith)) in omega (arith, l)
few (some d ∷ s) (suc count) h = let l = few s count (λ i l. h (suc i) (omega arith)) in omega (arith, l)

module _ {b name buffer after : List ℕ} {v n : ℕ} (by : MatchedBy b name buffer v n after) where
  match_named : OnlyNamed (model_of b).pattern_count by.match.bindings
  match_named = rw (usable_model_lem b by.inputs.usable_is) (packet_named by.model by.components (first_in _ by.first_match))

  -- the words of a temporary Tag, suc i, are 0
  pub temporary_words : (i : ℕ) → (model_of b).pattern_count < suc i → suc i ≤ max_tag → words_at after i ≡ tag_words none
  temporary_words i h low = matched_at by i low ∙ ap tag_words (match_named.temporary (suc i) h)

  -- no more Tags are bound than are named
  pub bound_few : n ≤ (model_of b).pattern_count
  unfolding bound
  bound_few = rw (← by.count) (few by.match.bindings (model_of b).pattern_count (λ i l. match_named.temporary (suc i) (omega arith)))

-- and so are they after "allowed"
pub temporary_pair_words : {b packet key : List ℕ} {s : Buffers} {p k : ℕ} {after : Buffers} → SignedBy b packet key s p k after → (i : ℕ)
    → (model_of b).pattern_count < suc i → suc i ≤ max_tag → words_at after.words i ≡ tag_words none
temporary_pair_words {b} by i h low =
    let a = by.allowed in
    let named = key_named by.model by.packet_components by.key_components a.packet_match a.key_match in
    signed_at by i low ∙ ap tag_words (named.temporary (suc i) (rw (usable_model_lem b by.inputs.usable_is) at h))
