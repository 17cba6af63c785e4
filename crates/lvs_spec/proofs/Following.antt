-- The following call: a path is accepted exactly when it has one word for each component, every edge may be crossed, and the end is a signer that
-- the packet's Node lists; and that is exactly when it is the path of a pair that is allowed. Assumes nothing.
use Prim.Native.Nat.{ℕ, ◌+◌, ◌≤◌, ◌<◌}
use mathlib.Core.Path.{◌≡◌, refl, sym, ap, ◌∙◌, subst}
use mathlib.Core.Logic.{◌↔◌}
use mathlib.Core.Bool.{true}
use mathlib.Core.List.{List, Memᴰ}
use mathlib.Core.Option.{Option, none, some}
use lib.ListN.{length, take}
use lib.Seq.{take_at}
use Rattle.tlv.specs.Lists.{is_some}
use Rattle.lvs_spec.specs.Model.{Model, edges, node_at, model_of}
use Rattle.lvs_spec.specs.Names.{Component}
use Rattle.lvs_spec.specs.Walk.{Match, Pair, pair_path, pairs, follow_pair}
use Rattle.lvs_spec.specs.Answers.{Refusal, Inputs, Buffers, FollowAnswer, followed, follow_with}
use Rattle.lvs_spec.specs.Answers.{follow_answer}
use Rattle.lvs_spec.specs.Demands.{SignInputs, SomeAllowed, Followed, SomeFollowed, NoneFollowed, follow_refusals}
use Rattle.lvs_spec.proofs.Lists.{clash}
use Rattle.lvs_spec.proofs.Follow.{pair_followed, followed_pair, followed_path, followed_allowed, allowed_followed, allowed_length, allowed_low}
use Rattle.lvs_spec.proofs.Usable.{usable_model_lem}
use Rattle.lvs_spec.proofs.Inputs.{Read, refuses, reads, inputs_good, inputs_read}
use Rattle.lvs_spec.proofs.Signing.{SignedBy, pair_allowed, allowed_pair}

-- the two ways in which a following call ends
data Ended (b packet key path : List ℕ) : FollowAnswer → Type 0 where
  refusing : (r : Refusal) → Memᴰ r.number follow_refusals → Ended b packet key path (FollowAnswer.refused r)
  walked : {m : Model} {ps ks : List Component} {o : Option Pair} → SignInputs b packet key m ps ks → follow_pair m ps ks path ≡ o
      → Ended b packet key path (followed (is_some o))

ended : (b packet key path : List ℕ) → Ended b packet key path (follow_answer b packet key path)
unfolding follow_answer follow_with
ended b packet key path = go (inputs_read b packet key)
  where
    go : {i : Inputs} → Read b packet key i → Ended b packet key path (follow_with i path)
    go (refuses r n) = refusing r n
    go (reads g) = walked g refl

-- inputs that no rule refuses
follow_is : {b packet key : List ℕ} {m : Model} {ps ks : List Component} (path : List ℕ) → SignInputs b packet key m ps ks
    → follow_answer b packet key path ≡ followed (is_some (follow_pair m ps ks path))
unfolding follow_answer follow_with
follow_is path g = ap (λ i. follow_with i path) (inputs_good g)

module _ (b packet key path : List ℕ) where
  pub follow_some : (follow_answer b packet key path ≡ FollowAnswer.accepted) ↔ SomeFollowed b packet key path
  unfolding followed
  follow_some = (
    λ h. go (ended b packet key path) h,
    λ (m, ps, ks, g, (x, y, f)). follow_is path g ∙ ap (λ o. followed (is_some o)) (followed_pair m ps ks f),
  )
    where
      go : {a : FollowAnswer} → Ended b packet key path a → a ≡ FollowAnswer.accepted → SomeFollowed b packet key path
      go (refusing r n) h = clash (cc)
      go (walked {o = none} g e) h = clash (cc)
      go (walked {m = m} {ps = ps} {ks = ks} {o = some z} g e) h = (m, ps, ks, g, (z.packet, z.key, pair_followed m ps ks path e))

  pub follow_none : (follow_answer b packet key path ≡ FollowAnswer.no) ↔ NoneFollowed b packet key path
  unfolding followed
  follow_none = (λ h. go (ended b packet key path) h, λ (m, ps, ks, g, n). follow_is path g ∙ back m ps ks n _ refl)
    where
      go : {a : FollowAnswer} → Ended b packet key path a → a ≡ FollowAnswer.no → NoneFollowed b packet key path
      go (refusing r n) h = clash (cc)
      go (walked {m = m} {ps = ps} {ks = ks} {o = none} g e) h =
          (m, ps, ks, g, λ (x, y, f). let k = sym (followed_pair m ps ks f) ∙ e in clash (cc))
      go (walked {o = some z} g e) h = clash (cc)

      back : (m : Model) (ps ks : List Component) → (¬ ((x y : Match) × Followed m ps ks path x y)) → (o : Option Pair) → follow_pair m ps ks path ≡ o
          → followed (is_some (follow_pair m ps ks path)) ≡ FollowAnswer.no
      back m ps ks n none e = rw e
      back m ps ks n (some z) e = absurd (n (z.packet, z.key, pair_followed m ps ks path e))

  -- a refusal is one of an input that the call takes
  pub follow_number : (r : Refusal) → follow_answer b packet key path ≡ FollowAnswer.refused r → Memᴰ r.number follow_refusals
  unfolding followed
  follow_number r h = go (ended b packet key path) h
    where
      go : {a : FollowAnswer} → Ended b packet key path a → a ≡ FollowAnswer.refused r → Memᴰ r.number follow_refusals
      go (refusing q i) h = let e : q.number ≡ r.number = cc in subst (λ (x : ℕ). Memᴰ x follow_refusals) e i
      go (walked {o = none} g e) h = clash (cc)
      go (walked {o = some z} g e) h = clash (cc)

  -- ---- what it says of the signing call

  -- whoever made the path, two matches are allowed
  pub accepted_allowed : follow_answer b packet key path ≡ FollowAnswer.accepted → SomeAllowed b packet key
  accepted_allowed h = let (m, ps, ks, g, (x, y, f)) = follow_some.0 h in (m, ps, ks, g, (x, y, followed_allowed m ps ks f))

-- a path that is accepted, each of its words below the most edges that a Node has
pub record SomePath (b packet key : List ℕ) : Type 0 where
  pub path : List ℕ
  pub low : (n : ℕ) → ((v : ℕ) → length (edges (node_at (model_of b) v)) ≤ n) → {w : ℕ} → Memᴰ w path → w < n
  pub accepted : follow_answer b packet key path ≡ FollowAnswer.accepted

module _ {b packet key : List ℕ} where
  -- two matches that are allowed have one
  pub some_path : SomeAllowed b packet key → SomePath b packet key
  some_path (m, ps, ks, g, (x, y, a)) =
      record {
        path = pair_path (record { packet = x; key = y });
        low = λ n few i. allowed_low m ps ks a n (rw (usable_model_lem b g.usable_is) at few) i;
        accepted = (follow_some b packet key _).1 (m, ps, ks, g, (x, y, allowed_followed m ps ks a));
      }

  -- the path that "allowed" leaves in the buffer is accepted
  pub path_accepted : {s after : Buffers} {p k : ℕ} (w : SignedBy b packet key s p k after)
      → follow_answer b packet key (take (length w.packet_components + length w.key_components) after.path) ≡ FollowAnswer.accepted
  path_accepted {after = after} w =
      let m = w.model in
      let ps = w.packet_components in
      let ks = w.key_components in
      let n = length ps + length ks in
      let count = allowed_length m ps ks w.allowed in
      let front : take n after.path ≡ pair_path w.pair = ap (take n) w.path_is ∙ take_at (pair_path w.pair) _ n count in
      let f = subst (λ p. Followed m ps ks p w.pair.packet w.pair.key) (sym front) (allowed_followed m ps ks w.allowed) in
      (follow_some b packet key _).1 (m, ps, ks, w.inputs, (w.pair.packet, w.pair.key, f))

-- ---- a path that is accepted is that of an allowed pair, so that what is found decides

module _ (m n : Model) (ps ks : List Component) (same : pairs m ps ks ≡ pairs n ps ks) (path : List ℕ) where
  also : {z : Pair} → follow_pair m ps ks path ≡ some z → is_some (follow_pair n ps ks path) ≡ true
  also {z} e =
      let f = pair_followed m ps ks path e in
      let i = subst (Memᴰ z) same (allowed_pair m ps ks (followed_allowed m ps ks f)) in
      let g = allowed_followed n ps ks (pair_allowed n ps ks i) in
      ap (λ p. is_some (follow_pair n ps ks p)) (followed_path m ps ks f) ∙ ap is_some (followed_pair n ps ks g)

pub follow_same : (m n : Model) (ps ks : List Component) → pairs m ps ks ≡ pairs n ps ks → (path : List ℕ)
    → is_some (follow_pair m ps ks path) ≡ is_some (follow_pair n ps ks path)
follow_same m n ps ks same path = go (follow_pair m ps ks path) (follow_pair n ps ks path) refl refl
  where
    go : (o q : Option Pair) → follow_pair m ps ks path ≡ o → follow_pair n ps ks path ≡ q
        → is_some (follow_pair m ps ks path) ≡ is_some (follow_pair n ps ks path)
    go none none e f = rw (e, f)
    go (some z) q e f = ap is_some e ∙ sym (also m n ps ks same path e)
    go none (some z) e f = also n m ps ks (sym same) path f ∙ sym (ap is_some f)
