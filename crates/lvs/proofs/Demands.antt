-- What is demanded of the five public calls, stated and proved. Read this file first.
--
-- The first part ties it to the code: what a caller's proof learns of a call is generated from the call's contract (in src/lib.rt of its crate:
-- the verdict is in lvs_verdict, following in lvs_follow, the others are here), and all that follows is derived from that. It holds of any bytes as
-- model, names, buffers, path and list, since no call has a `requires`.
--
-- That each call ends, and does nothing undefined, is what the check proves of every function of these crates. Nothing is assumed: the
-- libraries rest on no axiom and declare no C function. Not covered are the compiler's back end, and the programs' input and output.
--
-- The format, the walk and the refusal numbers are described in docs/format.md and defined in crates/lvs_spec/specs/; its Demands.antt has the
-- terms used here, such as `SomeMatch`.
use Prim.Native.Nat.{ℕ, suc, ◌+◌, ◌≤◌, ◌<◌}
use mathlib.Core.Path.{◌≡◌, refl, sym, ap, ◌∙◌}
use mathlib.Core.Logic.{◌↔◌}
use mathlib.Core.Bool.{true, false}
use mathlib.Core.List.{List, [], ◌∷◌, ◌++◌, Memᴰ}
use mathlib.Core.Option.{some}
use Rattle.std.specs.Prelude.{Bool, None, Some, Result, Ok, Err}
use native.Mathlib.Omega.{arith}
use lib.ListN.{length, take}
use contract.Lifetimes.{Lfts}
use denote.Ref.{Bor, MutBor, at_last}
use Rattle.tlv.specs.Bytes.{Bytes}
use Rattle.tlv.specs.Element.{Element, type_in_range, element_bytes, encode, InRange, Each}
use Rattle.lvs_spec.specs.Limits.{max_model_bytes, max_tag}
use Rattle.lvs_spec.specs.Types as type
use Rattle.lvs_spec.specs.Grammar.{meaning, optional, critical}
use Rattle.lvs_spec.specs.WellFormed.{this_version, well_formed}
use Rattle.lvs_spec.specs.Model.{Model, model_of}
use Rattle.lvs_spec.specs.Verdict.{describes, reading, verdict}
use Rattle.lvs_spec.specs.Tree.{IsTree}
use Rattle.lvs_spec.specs.Walk.{packet_origin, Binding, Bindings, bound, Match, begin, matches}
use Rattle.lvs_spec.specs.Answers.{tag_words, Outcome, match_refused, match_outcome, Buffers, SignOutcome, sign_refused, sign_outcome, follow_answer}
use Rattle.lvs_spec.specs.Certificates.{suggest_answer}
use Rattle.lvs_spec.specs.Gaps.{bare, Inserted, gap_place, Stands}
use Rattle.lvs_spec.specs.Demands.{model_refusals, match_refusals, follow_refusals, sign_refusals, suggest_refusals, SomeMatch, NoMatch}
use Rattle.lvs_spec.specs.Demands.{words_at, StandsIn, Whose, FirstBound, ShortWords, ShortPath, SignRoom, SomeAllowed, NoneAllowed, SomeFollowed}
use Rattle.lvs_spec.specs.Demands.{NoneFollowed}
use Rattle.lvs_spec.specs.Demands.{MalformedAt, FaultWithin, joined, FirstAllowed, NoCertificate, Alike, AllRefuse, unnamed, counted}
use Rattle.lvs_spec.proofs.Refusals.{verdict_number, refused_malformed}
use Rattle.lvs_spec.proofs.Reading.{malformed_refused, fault_within}
use Rattle.lvs_spec.proofs.Tree.{accepted_tree, matched_once}
use Rattle.lvs_spec.proofs.Matching.{MatchedBy, match_matched, match_some, match_none, match_number}
use Rattle.lvs_spec.proofs.Signing.{SignedBy, sign_allowed, sign_some, sign_none, sign_number, sign_short_words, sign_short_path}
use Rattle.lvs_spec.proofs.Following.{follow_some, follow_none, follow_number, accepted_allowed, some_path, path_accepted}
use Rattle.lvs_spec.proofs.Suggesting.{suggest_number, suggest_first, suggest_none}
use Rattle.lvs_spec.proofs.Buffer.{refused_keeps, no_match_keeps, answer_by_length, matched_at, sign_refused_keeps, not_allowed_keeps}
use Rattle.lvs_spec.proofs.Buffer.{sign_by_length, signed_at}
use Rattle.lvs_spec.proofs.Origins.{first_bound, match_stands, pair_stands}
use Rattle.lvs_spec.proofs.Temporary.{temporary_words, temporary_pair_words, bound_few}
use Rattle.lvs_spec.proofs.Same.{SameAnswers as SameDefined, accepted_same}
use Rattle.lvs_spec.proofs.Unnamed.{same_unnamed}
use Rattle.lvs_spec.proofs.Counts.{same_counts}
use Rattle.lvs_spec.proofs.Demand3.{bare_alike, critical_refused, version_refused}
use Rattle.lvs_spec.proofs.Usable.{usable_accepted, all_refuse}
use Rattle.lvs_spec.proofs.Critical.{stands}
use Rattle.lvs_spec.proofs.Optional.{optional_alike}
use Rattle.lvs_spec.specs.Refusals.{refusal_of}
use Rattle.lvs_spec.specs.declared.refusal.Refusal.{Refusal}
use Rattle.lvs_spec.specs.declared.refusal.Refusal.TheVariants as refused
use Rattle.lvs_edges.proofs.Ordered.{walkable}
use Rattle.lvs_edges.proofs.Few.{edges_few}
use Rattle.lvs_verdict.specs.Answers.{verdict_of}
use Rattle.lvs_follow.specs.Answers.{follow_answer_of}
use Rattle.lvs.specs.Answers.{MatchAnswer, match_answer_of, SignAnswer, sign_answer_of, SuggestAnswer, suggest_answer_of}
use Rattle.lvs_verdict.proofs.judge_model.Reads as judge-model
use Rattle.lvs_follow.proofs.follow.Reads as follow
use Rattle.lvs.proofs.Same.{same_verdict, same_matching, same_signing, same_following, same_suggesting}
use Rattle.lvs.proofs.match_name.Reads as match-name
use Rattle.lvs.proofs.sign.Reads as sign
use Rattle.lvs.proofs.suggest.Reads as suggest

-- ---- what a caller learns
--
-- `Asked` and `Learnt` are generated from a call's `requires` and `ensures`: what its caller has to show, and what it then knows of the slices
-- passed, the answer, and the slices after the call. How long the slices live and where they lie is left open.

abbrev pub Slice : Type 0
Slice = Bor (List ℕ)

-- one that is lent to be written
abbrev pub Lent : Type 0
Lent = MutBor (List ℕ)

-- the slice, with these bytes in it
abbrev pub holding : Slice → List ℕ → Slice
holding s xs = record { ref_ptr = s.ref_ptr; now = xs }

-- the answers that found something
abbrev pub a_match : ℕ → ℕ → MatchAnswer
a_match v n = Ok (Some (record { node = v; bound = n }))

abbrev pub a_pair : ℕ → ℕ → SignAnswer
a_pair p k = Ok (Some (record { packet = p; key = k }))

-- a call of `judge_model` with a slice that holds `model` answered r
pub record Judged (model : List ℕ) (r : Result ℕ Refusal) : Type 0 where
  pub lives : Lfts 1
  pub m : Slice
  pub learnt : judge-model.Learnt lives (holding m model, tt) r (holding m model, tt)

-- a call of `match_name` answered r, and the buffer then held the words `after`
pub record Matched (model name buffer : List ℕ) (r : MatchAnswer) (after : List ℕ) : Type 0 where
  pub lives : Lfts 3
  pub m : Slice
  pub n : Slice
  pub b : Lent
  pub learnt : match-name.Learnt lives (holding m model, (holding n name, (at_last b buffer, tt))) r (holding m model, (holding n name, (at_last b after, tt)))

-- a call of `sign` that was lent the buffers s answered r, and these then held what `after` says
pub record Signed (model packet key : List ℕ) (s : Buffers) (r : SignAnswer) (after : Buffers) : Type 0 where
  pub lives : Lfts 5
  pub m : Slice
  pub p : Slice
  pub k : Slice
  pub b : Lent
  pub w : Lent
  pub learnt : sign.Learnt lives (holding m model, (holding p packet, (holding k key, (at_last b s.words, (at_last w s.path, tt))))) r
      (holding m model, (holding p packet, (holding k key, (at_last b after.words, (at_last w after.path, tt)))))

-- a call of `follow` answered r
pub record Followed (model packet key path : List ℕ) (r : Result Bool Refusal) : Type 0 where
  pub lives : Lfts 4
  pub m : Slice
  pub p : Slice
  pub k : Slice
  pub w : Slice
  pub learnt : follow.Learnt lives (holding m model, (holding p packet, (holding k key, (holding w path, tt)))) r
      (holding m model, (holding p packet, (holding k key, (holding w path, tt))))

-- a call of `suggest` answered r
pub record Suggested (model packet list : List ℕ) (r : SuggestAnswer) : Type 0 where
  pub lives : Lfts 3
  pub m : Slice
  pub p : Slice
  pub l : Slice
  pub learnt : suggest.Learnt lives (holding m model, (holding p packet, (holding l list, tt))) r (holding m model, (holding p packet, (holding l list, tt)))

-- the answer of each call, and every word of what is lent to it, are those of the definitions
pub judged_is : {model : List ℕ} {r : Result ℕ Refusal} → Judged model r → verdict_of r ≡ verdict model
judged_is c = c.learnt

pub matched_is : {model name buffer after : List ℕ} {r : MatchAnswer} → Matched model name buffer r after
    → ◌≡◌ {A = Outcome} (record { answer = match_answer_of r; words = after }) (match_outcome model name buffer)
matched_is c = c.learnt

pub signed_is : {model packet key : List ℕ} {s after : Buffers} {r : SignAnswer} → Signed model packet key s r after
    → ◌≡◌ {A = SignOutcome} (record { answer = sign_answer_of r; buffers = after }) (sign_outcome model packet key s)
signed_is c = c.learnt

pub followed_is : {model packet key path : List ℕ} {r : Result Bool Refusal} → Followed model packet key path r
    → follow_answer_of r ≡ follow_answer model packet key path
followed_is c = c.learnt

pub suggested_is : {model packet list : List ℕ} {r : SuggestAnswer} → Suggested model packet list r → suggest_answer_of r ≡ suggest_answer model packet list
suggested_is c = c.learnt

-- nothing is asked of a caller
pub judge_asks_nothing : (lives : Lfts 1) (m : Slice) → judge-model.Asked lives (m, tt)
judge_asks_nothing lives m = tt

pub match_asks_nothing : (lives : Lfts 3) (m n : Slice) (b : Lent) → match-name.Asked lives (m, (n, (b, tt)))
match_asks_nothing lives m n b = tt

pub sign_asks_nothing : (lives : Lfts 5) (m p k : Slice) (b w : Lent) → sign.Asked lives (m, (p, (k, (b, (w, tt)))))
sign_asks_nothing lives m p k b w = tt

pub follow_asks_nothing : (lives : Lfts 4) (m p k w : Slice) → follow.Asked lives (m, (p, (k, (w, tt))))
follow_asks_nothing lives m p k w = tt

pub suggest_asks_nothing : (lives : Lfts 3) (m p l : Slice) → suggest.Asked lives (m, (p, (l, tt)))
suggest_asks_nothing lives m p l = tt

-- ---- the verdict call

-- a refusal is one of a model
pub judge_refusals : {model : List ℕ} {x : Refusal} → Judged model (Err x) → Memᴰ (refusal_of x).number model_refusals
judge_refusals {model} c = verdict_number model (sym (judged_is c))

-- it is 2 with the place p exactly when the model is not too long and of no other version, and its first fault is at p
pub malformed_exactly : {model : List ℕ} {r : Result ℕ Refusal} {p : ℕ} → Judged model r → (r ≡ Err (refused.Malformed p)) ↔ MalformedAt model p
malformed_exactly {model} {r} c = (
  λ e. refused_malformed model (sym (judged_is c) ∙ ap verdict_of e),
  λ f. same_verdict r _ (judged_is c ∙ malformed_refused model f),
)

-- there is such a place, and it lies within the model, exactly when the model is not well formed
pub place_exactly : (model : List ℕ) → (well_formed model ≡ false) ↔ FaultWithin model
place_exactly = fault_within

-- the Nodes of an accepted model that edges lead to from the start form a tree: each is reached by one path alone, so that none is its own
-- descendant and no two edges lead to one
pub accepted_is_tree : {model : List ℕ} {n : ℕ} → Judged model (Ok n) → IsTree (model_of model)
accepted_is_tree {model} c = accepted_tree model (sym (judged_is c))

-- so a name leads to a Node in one way at most, whatever is bound when its walk begins
pub one_match_a_node : {model : List ℕ} {n : ℕ} → Judged model (Ok n) → (row : List Binding) (s : Bindings) {x y : Match}
    → Memᴰ x (matches (model_of model) row (begin (model_of model) s)) → Memᴰ y (matches (model_of model) row (begin (model_of model) s))
    → x.node ≡ y.node → x ≡ y
one_match_a_node {model} c row s = matched_once (model_of model) row s (accepted_is_tree c)

-- ---- the match call

module _ {model name buffer after : List ℕ} where
  answered : {r : MatchAnswer} → Matched model name buffer r after → match_answer_of r ≡ (match_outcome model name buffer).answer
  answered c = ap (λ (o : Outcome). o.answer) (matched_is c)

  left : {r : MatchAnswer} → Matched model name buffer r after → after ≡ (match_outcome model name buffer).words
  left c = ap (λ (o : Outcome). o.words) (matched_is c)

  -- a refused call leaves the buffer as it was, and so does "no match"
  pub refused_keeps_buffer : {x : Refusal} → Matched model name buffer (Err x) after → after ≡ buffer
  refused_keeps_buffer c = left c ∙ refused_keeps model name buffer _ (sym (answered c))

  pub no_match_keeps_buffer : Matched model name buffer (Ok None) after → after ≡ buffer
  no_match_keeps_buffer c = left c ∙ no_match_keeps model name buffer (sym (answered c))

  -- a refusal is one of a model, a packet name or a buffer
  pub match_refusals_lem : {x : Refusal} → Matched model name buffer (Err x) after → Memᴰ (refusal_of x).number match_refusals
  match_refusals_lem c = match_number model name buffer _ (sym (answered c))

  -- a match is answered exactly when there is one
  pub match_exactly : {r : MatchAnswer} → Matched model name buffer r after → ((v n : ℕ) × (r ≡ a_match v n)) ↔ SomeMatch model name buffer
  match_exactly {r} c = (
    λ (v, n, e). (match_some model name buffer).0 (v, n, sym (answered c) ∙ ap match_answer_of e),
    λ s. let (v, n, e) = (match_some model name buffer).1 s in (v, n, same_matching r _ (answered c ∙ e)),
  )

  -- "no match" exactly when there is none
  pub no_match_exactly : {r : MatchAnswer} → Matched model name buffer r after → (r ≡ Ok None) ↔ NoMatch model name buffer
  no_match_exactly {r} c = (
    λ e. (match_none model name buffer).0 (sym (answered c) ∙ ap match_answer_of e),
    λ s. same_matching r _ (answered c ∙ (match_none model name buffer).1 s),
  )

  -- it is the first; n Tags are bound, and the buffer holds their places, and after these what it held
  pub first_match : {v n : ℕ} → Matched model name buffer (a_match v n) after → MatchedBy model name buffer v n after
  first_match {v} {n} c = rw (left c) (match_matched model name buffer v n (sym (answered c)))

  -- the three words of each Tag, suc i, are those of what it is bound to
  pub match_words : {v n : ℕ} (c : Matched model name buffer (a_match v n) after) (i : ℕ) → i < max_tag
      → words_at after i ≡ tag_words (bound (first_match c).match.bindings (suc i))
  match_words c = matched_at (first_match c)

  -- which is from the packet, and stands in its name where they say
  pub match_origins : {v n : ℕ} (c : Matched model name buffer (a_match v n) after) → Bytes name → (t : ℕ) {d : Binding}
      → bound (first_match c).match.bindings t ≡ some d → (d.origin ≡ packet_origin) × StandsIn name d.component
  match_origins c = match_stands (first_match c)

  -- those of a temporary Tag are 0, and no more Tags are bound than are named
  pub temporary_words_zero : {v n : ℕ} → Matched model name buffer (a_match v n) after → (i : ℕ) → (model_of model).pattern_count < suc i
      → suc i ≤ max_tag → words_at after i ≡ 0 ∷ 0 ∷ 0 ∷ []
  unfolding tag_words
  temporary_words_zero c = temporary_words (first_match c)

  pub bound_at_most : {v n : ℕ} → Matched model name buffer (a_match v n) after → n ≤ (model_of model).pattern_count
  bound_at_most c = bound_few (first_match c)

-- the answer does not depend on what the buffer holds, only on its length
pub buffer_unread : {model name buffer other after last : List ℕ} {r q : MatchAnswer} → length buffer ≡ length other
    → Matched model name buffer r after → Matched model name other q last → r ≡ q
buffer_unread {model} {name} {buffer} {other} {r = r} {q = q} l c d =
    same_matching r q (answered c ∙ answer_by_length model name buffer other l ∙ sym (answered d))

-- ---- the signing call

module _ {model packet key : List ℕ} {s after : Buffers} where
  signed_answer : {r : SignAnswer} → Signed model packet key s r after → sign_answer_of r ≡ (sign_outcome model packet key s).answer
  signed_answer c = ap (λ (o : SignOutcome). o.answer) (signed_is c)

  buffers_left : {r : SignAnswer} → Signed model packet key s r after → after ≡ (sign_outcome model packet key s).buffers
  buffers_left c = ap (λ (o : SignOutcome). o.buffers) (signed_is c)

  -- a refused call leaves both buffers as they were, and so does "not allowed"
  pub refused_keeps_buffers : {x : Refusal} → Signed model packet key s (Err x) after → after ≡ s
  refused_keeps_buffers c = buffers_left c ∙ sign_refused_keeps model packet key s _ (sym (signed_answer c))

  pub not_allowed_keeps_buffers : Signed model packet key s (Ok None) after → after ≡ s
  not_allowed_keeps_buffers c = buffers_left c ∙ not_allowed_keeps model packet key s (sym (signed_answer c))

  -- a refusal is one of a model, a packet name, a key name, a buffer or a path
  pub sign_refusals_lem : {x : Refusal} → Signed model packet key s (Err x) after → Memᴰ (refusal_of x).number sign_refusals
  sign_refusals_lem c = sign_number model packet key s _ (sym (signed_answer c))

  -- 27 exactly when no rule refuses model and names and there are too few words for the bindings; 34 exactly when there are enough of these, and too
  -- few for the path
  pub short_words_exactly : {r : SignAnswer} → Signed model packet key s r after → (r ≡ Err refused.ShortWords) ↔ ShortWords model packet key s
  short_words_exactly {r} c = (
    λ e. (sign_short_words model packet key s).0 (sym (signed_answer c) ∙ ap sign_answer_of e),
    λ w. same_signing r _ (signed_answer c ∙ (sign_short_words model packet key s).1 w),
  )

  pub short_path_exactly : {r : SignAnswer} → Signed model packet key s r after → (r ≡ Err refused.ShortPath) ↔ ShortPath model packet key s
  short_path_exactly {r} c = (
    λ e. (sign_short_path model packet key s).0 (sym (signed_answer c) ∙ ap sign_answer_of e),
    λ w. same_signing r _ (signed_answer c ∙ (sign_short_path model packet key s).1 w),
  )

  -- "allowed" exactly when some packet match, and some key match that starts from its bindings, end at a node and at a signer which
  -- that node lists, and there is room for bindings and path
  pub allowed_exactly : {r : SignAnswer} → Signed model packet key s r after
      → ((p k : ℕ) × (r ≡ a_pair p k)) ↔ (SomeAllowed model packet key × SignRoom packet key s)
  allowed_exactly {r} c = (
    λ (p, k, e). (sign_some model packet key s).0 (p, k, sym (signed_answer c) ∙ ap sign_answer_of e),
    λ a. let (p, k, e) = (sign_some model packet key s).1 a in (p, k, same_signing r _ (signed_answer c ∙ e)),
  )

  -- "not allowed" exactly when none do, and there is room
  pub not_allowed_exactly : {r : SignAnswer} → Signed model packet key s r after
      → (r ≡ Ok None) ↔ (NoneAllowed model packet key × SignRoom packet key s)
  not_allowed_exactly {r} c = (
    λ e. (sign_none model packet key s).0 (sym (signed_answer c) ∙ ap sign_answer_of e),
    λ a. same_signing r _ (signed_answer c ∙ (sign_none model packet key s).1 a),
  )

  -- the pair is the first: packet matches in order, for each the key matches in order; bindings and path are its own, and later words stay
  pub first_pair : {p k : ℕ} → Signed model packet key s (a_pair p k) after → SignedBy model packet key s p k after
  first_pair {p} {k} c = rw (buffers_left c) (sign_allowed model packet key s p k (sym (signed_answer c)))

  -- the three words of each Tag, suc i, are those of what it is bound to where the key's walk ended
  pub pair_words : {p k : ℕ} (c : Signed model packet key s (a_pair p k) after) (i : ℕ) → i < max_tag
      → words_at after.words i ≡ tag_words (bound (first_pair c).pair.key.bindings (suc i))
  pair_words c = signed_at (first_pair c)

  -- which stands in the name of its origin where they say
  pub pair_origins : {p k : ℕ} (c : Signed model packet key s (a_pair p k) after) → Bytes packet → Bytes key → (t : ℕ) {d : Binding}
      → bound (first_pair c).pair.key.bindings t ≡ some d → Whose packet key d
  pair_origins c = pair_stands (first_pair c)

  -- that is where it was first bound: a Tag that the packet bound keeps this, whether the key met it again or not
  pub origin_first : {p k : ℕ} (c : Signed model packet key s (a_pair p k) after) (t : ℕ)
      → let by = first_pair c in
      FirstBound by.packet_components by.key_components (bound by.pair.packet.bindings t) (bound by.pair.key.bindings t)
  origin_first c = let by = first_pair c in first_bound by.model by.packet_components by.key_components by.allowed

  -- those of a temporary Tag are 0
  pub temporary_pair_words_zero : {p k : ℕ} → Signed model packet key s (a_pair p k) after → (i : ℕ) → (model_of model).pattern_count < suc i
      → suc i ≤ max_tag → words_at after.words i ≡ 0 ∷ 0 ∷ 0 ∷ []
  unfolding tag_words
  temporary_pair_words_zero c = temporary_pair_words (first_pair c)

-- the answer does not depend on what the buffers hold, only on their lengths
pub buffers_unread : {model packet key : List ℕ} {s t after last : Buffers} {r q : SignAnswer} → length s.words ≡ length t.words
    → length s.path ≡ length t.path → Signed model packet key s r after → Signed model packet key t q last → r ≡ q
buffers_unread {model} {packet} {key} {r = r} {q = q} h l c d =
    same_signing r q (signed_answer c ∙ sign_by_length model packet key _ _ h l ∙ sym (signed_answer d))

-- ---- the following call

module _ {model packet key path : List ℕ} where
  -- a refusal is one of a model, a packet name or a key name
  pub follow_refusals_lem : {x : Refusal} → Followed model packet key path (Err x) → Memᴰ (refusal_of x).number follow_refusals
  follow_refusals_lem c = follow_number model packet key path _ (sym (followed_is c))

  -- "accepted" exactly when the path has one word for each component, every edge may be crossed, and the end is a signer that the packet's node
  -- lists
  pub accepted_exactly : {r : Result Bool Refusal} → Followed model packet key path r → (r ≡ Ok true) ↔ SomeFollowed model packet key path
  accepted_exactly {r} c = (
    λ e. (follow_some model packet key path).0 (sym (followed_is c) ∙ ap follow_answer_of e),
    λ s. same_following r _ (followed_is c ∙ (follow_some model packet key path).1 s),
  )

  -- "no" exactly when that is not so
  pub no_exactly : {r : Result Bool Refusal} → Followed model packet key path r → (r ≡ Ok false) ↔ NoneFollowed model packet key path
  no_exactly {r} c = (
    λ e. (follow_none model packet key path).0 (sym (followed_is c) ∙ ap follow_answer_of e),
    λ s. same_following r _ (followed_is c ∙ (follow_none model packet key path).1 s),
  )

  -- whoever made the path, accepted means allowed: a signing call with room enough says so
  pub accepted_signs : {s after : Buffers} {r : SignAnswer} → Followed model packet key path (Ok true)
      → SignRoom packet key s → Signed model packet key s r after → (p k : ℕ) × (r ≡ a_pair p k)
  accepted_signs c enough d = (allowed_exactly d).1 (accepted_allowed model packet key path (sym (followed_is c)), enough)

-- the path of an allowed answer is accepted: the first words after it, one for each component
pub signed_accepted : {model packet key : List ℕ} {s after : Buffers} {p k : ℕ} {r : Result Bool Refusal}
    (c : Signed model packet key s (a_pair p k) after)
    → let by = first_pair c in Followed model packet key (take (length by.packet_components + length by.key_components) after.path) r
    → r ≡ Ok true
signed_accepted {r = r} c f = same_following r _ (followed_is f ∙ path_accepted (first_pair c))

-- so for each allowed pair some path is
pub record AcceptedPath (model packet key : List ℕ) : Type 0 where
  pub path : List ℕ
  pub words_fit : (w : ℕ) → Memᴰ w path → w < 65536
  pub accepted : {r : Result Bool Refusal} → Followed model packet key path r → r ≡ Ok true

pub some_path_accepted : {model packet key : List ℕ} → SomeAllowed model packet key → AcceptedPath model packet key
some_path_accepted {model} {packet} {key} a =
    let w = some_path a in
    let (m, ps, ks, g, p) = a in
    let (n, e) = usable_accepted model g.usable_is in
    let walks = walkable model e in
    record {
      path = w.path;
      words_fit = λ x i. let l = w.low (length model) (edges_few model walks) i in omega (arith, l, walks.short);
      accepted = λ {r} f. same_following r _ (followed_is f ∙ w.accepted);
    }

-- ---- the suggesting call

-- what the signing call, with room, says of each certificate, one after the other: not to those before, but to the one with index i
pub record FirstBySigning (model packet list : List ℕ) (i : ℕ) : Type 0 where
  pub before : List (List ℕ)
  pub key : List ℕ
  pub behind : List (List ℕ)
  pub list_is : list ≡ joined (before ++ (key ∷ behind))
  pub index : length before ≡ i
  pub earlier : {k : List ℕ} {s after : Buffers} {r : SignAnswer} → Memᴰ k before → SignRoom packet k s → Signed model packet k s r after
      → r ≡ Ok None
  pub allowed : {s after : Buffers} {r : SignAnswer} → SignRoom packet key s → Signed model packet key s r after
      → (p k : ℕ) × (r ≡ a_pair p k)

-- or not to any
pub record NoneBySigning (model packet list : List ℕ) : Type 0 where
  pub keys : List (List ℕ)
  pub list_is : list ≡ joined keys
  pub none_allowed : {k : List ℕ} {s after : Buffers} {r : SignAnswer} → Memᴰ k keys → SignRoom packet k s → Signed model packet k s r after
      → r ≡ Ok None

module _ {model packet list : List ℕ} where
  -- a refusal is one of a model, a packet name or a list
  pub suggest_refusals_lem : {x : Refusal} → Suggested model packet list (Err x) → Memᴰ (refusal_of x).number suggest_refusals
  suggest_refusals_lem c = suggest_number model packet list _ (sym (suggested_is c))

  module _ (bytes : Bytes list) where
    -- the answer is i exactly when certificate i of the list is allowed, as for `sign`, and none before it is
    pub certificate_exactly : {r : SuggestAnswer} {i : ℕ} → Suggested model packet list r
        → (r ≡ Ok (Some i)) ↔ FirstAllowed model packet list i
    certificate_exactly {r} c = (
      λ e. (suggest_first model packet list bytes).0 (sym (suggested_is c) ∙ ap suggest_answer_of e),
      λ f. same_suggesting r _ (suggested_is c ∙ (suggest_first model packet list bytes).1 f),
    )

    -- "none" exactly when none is
    pub no_certificate_exactly : {r : SuggestAnswer} → Suggested model packet list r → (r ≡ Ok None) ↔ NoCertificate model packet list
    no_certificate_exactly {r} c = (
      λ e. (suggest_none model packet list bytes).0 (sym (suggested_is c) ∙ ap suggest_answer_of e),
      λ f. same_suggesting r _ (suggested_is c ∙ (suggest_none model packet list bytes).1 f),
    )

    -- it is what one signing call for each certificate comes to
    pub certificate_signs : {i : ℕ} → Suggested model packet list (Ok (Some i)) → FirstBySigning model packet list i
    certificate_signs c =
        let f = (certificate_exactly c).0 refl in
        record {
          before = f.before;
          key = f.key;
          behind = f.behind;
          list_is = f.inputs.list_is;
          index = f.index;
          earlier = λ {k} i enough s. (not_allowed_exactly s).1 (f.earlier k i, enough);
          allowed = λ enough s. (allowed_exactly s).1 (f.allowed, enough);
        }

    pub no_certificate_signs : Suggested model packet list (Ok None) → NoneBySigning model packet list
    no_certificate_signs c =
        let f = (no_certificate_exactly c).0 refl in
        record { keys = f.keys; list_is = f.inputs.list_is; none_allowed = λ {k} i enough s. (not_allowed_exactly s).1 (f.none_allowed k i, enough) }

-- ---- all calls: elements that change nothing, and elements that are refused

-- two models have the same matches, signing answers and suggestions and leave the same words, bindings with their origins and paths, given the same
-- names, equal buffers and the same list; and the same paths are accepted
pub record SameAnswers (a b : List ℕ) : Type 0 where
  pub matched : {name buffer after last : List ℕ} {r q : MatchAnswer} → Matched a name buffer r after → Matched b name buffer q last
      → (r ≡ q) × (after ≡ last)
  pub signed : {packet key : List ℕ} {s after last : Buffers} {r q : SignAnswer} → Signed a packet key s r after → Signed b packet key s q last
      → (r ≡ q) × (after ≡ last)
  pub followed : {packet key path : List ℕ} {r q : Result Bool Refusal} → Followed a packet key path r → Followed b packet key path q → r ≡ q
  pub suggested : {packet list : List ℕ} {r q : SuggestAnswer} → Suggested a packet list r → Suggested b packet list q → r ≡ q

-- and the same verdict
pub record SameCalls (a b : List ℕ) : Type 0 where
  pub judged : {r q : Result ℕ Refusal} → Judged a r → Judged b q → r ≡ q
  pub answers : SameAnswers a b

-- all calls refuse so, and leave the buffers as they are
pub record RefusedCalls (x : Refusal) (b : List ℕ) : Type 0 where
  pub judged : {r : Result ℕ Refusal} → Judged b r → r ≡ Err x
  pub matched : {name buffer after : List ℕ} {r : MatchAnswer} → Matched b name buffer r after → (r ≡ Err x) × (after ≡ buffer)
  pub signed : {packet key : List ℕ} {s after : Buffers} {r : SignAnswer} → Signed b packet key s r after
      → (r ≡ Err x) × (after ≡ s)
  pub followed : {packet key path : List ℕ} {r : Result Bool Refusal} → Followed b packet key path r → r ≡ Err x
  pub suggested : {packet list : List ℕ} {r : SuggestAnswer} → Suggested b packet list r → r ≡ Err x

same_answers : {a b : List ℕ} → SameDefined a b → SameAnswers a b
same_answers s =
    record {
      matched = λ {name} {buffer} {r = r} {q = q} c d.
          let e = matched_is c ∙ s.matched name buffer ∙ sym (matched_is d) in
          (same_matching r q (ap (λ (o : Outcome). o.answer) e), ap (λ (o : Outcome). o.words) e);
      signed = λ {packet} {key} {s = t} {r = r} {q = q} c d.
          let e = signed_is c ∙ s.signed packet key t ∙ sym (signed_is d) in
          (same_signing r q (ap (λ (o : SignOutcome). o.answer) e), ap (λ (o : SignOutcome). o.buffers) e);
      followed = λ {packet} {key} {path} {r} {q} c d. same_following r q (followed_is c ∙ s.followed packet key path ∙ sym (followed_is d));
      suggested = λ {packet} {list} {r} {q} c d. same_suggesting r q (suggested_is c ∙ s.suggested packet list ∙ sym (suggested_is d));
    }

pub same_calls : {a b : List ℕ} → Alike a b → SameCalls a b
same_calls s =
    record {
      judged = λ {r} {q} c d. same_verdict r q (judged_is c ∙ s.verdicts ∙ sym (judged_is d));
      answers = same_answers (record { matched = s.matched; signed = s.signed; followed = s.followed; suggested = s.suggested });
    }

refused_calls : {x : Refusal} {b : List ℕ} → AllRefuse (refusal_of x).number (refusal_of x).at b → RefusedCalls x b
unfolding match_refused sign_refused
refused_calls s =
    record {
      judged = λ {r} c. same_verdict r _ (judged_is c ∙ s.verdicts);
      matched = λ {name} {buffer} {r = r} c.
          let e = matched_is c ∙ s.matched name buffer in
          (same_matching r _ (ap (λ (o : Outcome). o.answer) e), ap (λ (o : Outcome). o.words) e);
      signed = λ {packet} {key} {s = t} {r = r} c.
          let e = signed_is c ∙ s.signed packet key t in
          (same_signing r _ (ap (λ (o : SignOutcome). o.answer) e), ap (λ (o : SignOutcome). o.buffers) e);
      followed = λ {packet} {key} {path} {r} c. same_following r _ (followed_is c ∙ s.followed packet key path);
      suggested = λ {packet} {list} {r} c. same_suggesting r _ (suggested_is c ∙ s.suggested packet list);
    }

-- what the verdict call refuses, all calls refuse with the same number and place; so each says where a model is malformed
pub refused_by_all : {model : List ℕ} {x : Refusal} → Judged model (Err x) → RefusedCalls x model
refused_by_all {model} c = refused_calls (all_refuse model (sym (judged_is c)))

-- an optional element x in any gap changes no answer and no word, unless the model becomes too long
pub optional_ignored : (b b' : List ℕ) (m : Model) (x : Element) → Bytes b → Bytes b' → reading b ≡ describes m → meaning x.type ≡ optional
    → type_in_range x.type ≡ true → Inserted x b b' → length b' ≤ max_model_bytes → SameCalls b' b
optional_ignored b b' m x bytes bytes' r o t i l = same_calls (optional_alike b b' m x bytes bytes' r o t i l)

-- nor does taking out every one. (That `bare` takes out these and nothing else is proved in lvs_spec/proofs/Gaps.antt)
pub optional_changes_nothing : (b : List ℕ) (m : Model) → Bytes b → reading b ≡ describes m → SameCalls (bare b) b
optional_changes_nothing b m bytes r = same_calls (bare_alike b m bytes r)

-- nor does the text of RuleNames, nor do TagSymbols, in a model that stays accepted
pub texts_change_nothing : {a b : List ℕ} {i j : ℕ} → Judged a (Ok i) → Judged b (Ok j)
    → unnamed (model_of a) ≡ unnamed (model_of b) → SameAnswers a b
texts_change_nothing {a} {b} {i} {j} c d e =
    same_answers (accepted_same a b i j (sym (judged_is c)) (sym (judged_is d)) (same_unnamed e))

-- nor does a NamedPatternCnt of 128 or more, which makes every Tag named
pub large_counts_alike : {a b : List ℕ} {i j : ℕ} → Judged a (Ok i) → Judged b (Ok j)
    → max_tag ≤ (model_of a).pattern_count → max_tag ≤ (model_of b).pattern_count → counted max_tag (model_of a) ≡ counted max_tag (model_of b)
    → SameAnswers a b
large_counts_alike {a} {b} {i} {j} c d l k e =
    same_answers (accepted_same a b i j (sym (judged_is c)) (sym (judged_is d)) (same_counts l k e))

-- a critical element x in any gap makes all calls refuse with 2 and the very place where x stands then, unless the model becomes too long
pub critical_refuses : (b b' : List ℕ) (m : Model) (x : Element) → reading b ≡ describes m → meaning x.type ≡ critical
    → type_in_range x.type ≡ true → (i : Inserted x b b') → length b' ≤ max_model_bytes
    → RefusedCalls (refused.Malformed (gap_place i)) b' × Stands x (gap_place i) b'
critical_refuses b b' m x r c t i l = (refused_calls (critical_refused b b' m x r c t i l), stands i)

-- another version, after optional elements and before any bytes, makes all refuse with 3, unless the model is too long
pub other_version_refuses : (es : List Element) (v rest : List ℕ) → Each InRange es → Each (λ e. meaning e.type ≡ optional) es → length v ≡ 4
    → ¬ (v ≡ this_version)
    → let b : List ℕ = encode es ++ (element_bytes (record { type = type.Version; inside = v }) ++ rest) in
    length b ≤ max_model_bytes → RefusedCalls refused.OtherVersion b
other_version_refuses es v rest f o n other l = refused_calls (version_refused es v rest f o n other l)
