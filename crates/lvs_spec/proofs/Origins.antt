-- Where a binding is from (docs/format.md, 7.1): the name in which its Tag was first bound. Assumes nothing.
use Prim.Native.Nat.{ℕ, zero, suc}
use mathlib.Core.Path.{◌≡◌, refl, sym, ap, ◌∙◌, subst}
use mathlib.Core.Logic.{◌⊎◌, inl, inr, ⊎_elim}
use mathlib.Core.List.Memᴰ
use mathlib.Core.List.{List, [], ◌∷◌, Memᴰ}
use mathlib.Core.Option.{Option, none, some}
use lib.ListN.{get_or, set}
use Rattle.tlv.specs.Bytes.{Bytes}
use Rattle.lvs_spec.specs.Limits.{max_tag}
use Rattle.lvs_spec.specs.Model.{Model}
use Rattle.lvs_spec.specs.Names.{Component, packet_name, key_name}
use Rattle.lvs_spec.specs.Walk.{packet_origin, key_origin, Binding, row_of, Bindings, no_bindings, bound, Match, begin, matches}
use Rattle.lvs_spec.specs.Walk.{packet_trace, key_trace, packet_matches, key_matches}
use Rattle.lvs_spec.specs.Answers.{Buffers}
use Rattle.lvs_spec.specs.Demands.{StandsIn, Whose, in_packet, in_key, FirstBound, unbound, by_packet, by_key, Allowed}
use Rattle.lvs_spec.proofs.Lists.{clash, first_in, map-from}
use Rattle.lvs_spec.proofs.Trace.{walk_keeps}
use Rattle.lvs_spec.proofs.Bindings.{Changed, stays, fills, cross_changed, none_there}
use Rattle.lvs_spec.proofs.Names.{component_stands}
use Rattle.lvs_spec.proofs.Matching.{MatchedBy}
use Rattle.lvs_spec.proofs.Signing.{SignedBy}

-- what a walk with the components of a name makes of a Tag: it keeps its binding, or is bound to one of them
pub data Walked (origin : ℕ) (cs : List Component) (before after : Option Binding) : Type 0 where
  keeps : after ≡ before → Walked origin cs before after
  binds : (d : Binding) → before ≡ none → after ≡ some d → d.origin ≡ origin → Memᴰ d.component cs → Walked origin cs before after

row_from : (origin : ℕ) (cs : List Component) {d : Binding} → Memᴰ d (row_of origin cs) → (d.origin ≡ origin) × Memᴰ d.component cs
unfolding row_of
row_from origin cs i =
    let (c, j, e) = map-from _ cs i in
    (ap (λ (d : Binding). d.origin) e, Memᴰ.cast (ap (λ (d : Binding). d.component) e) j)

set_at : {A : Type 0} (s : List (Option A)) (i j : ℕ) (a : A)
    → (get_or (set s i (some a)) j none ≡ get_or s j none) ⊎ ((j ≡ i) × (get_or (set s i (some a)) j none ≡ some a))
set_at [] i j a = inl refl
set_at (x ∷ s) zero zero a = inr (refl, refl)
set_at (x ∷ s) zero (suc j) a = inl refl
set_at (x ∷ s) (suc i) zero a = inl refl
set_at (x ∷ s) (suc i) (suc j) a = ⊎_elim inl (λ (e, f). inr (ap suc e, f)) (set_at s i j a)

module _ {origin : ℕ} {cs : List Component} {before : Option Binding} where
  -- a slot that was empty is filled
  fill : {d : Binding} {q after : Option Binding} → d.origin ≡ origin → Memᴰ d.component cs → q ≡ none → after ≡ some d
      → Walked origin cs before q → Walked origin cs before after
  fill {d} o i u e (keeps k) = binds d (sym k ∙ u) e o i
  fill o i u e (binds d b k _ _) = clash (cc)

  walked_changed : {count : ℕ} {s : Bindings} {b : Binding} {r : Bindings} (j : ℕ) → (b.origin ≡ origin) × Memᴰ b.component cs
      → Changed count s b r → Walked origin cs before (get_or s j none) → Walked origin cs before (get_or r j none)
  walked_changed j q (stays k) w = subst (λ t. Walked origin cs before (get_or t j none)) (sym k) w
  walked_changed {s = s} {b = b} j (o, i) (fills n l u k) w = subst (λ t. Walked origin cs before (get_or t j none)) (sym k) (
      ⊎_elim (λ e. subst (Walked origin cs before) (sym e) w) (λ (e, f). fill o i (ap (λ n. get_or s n none) e ∙ u) f w) (set_at s n j b)
      )

-- a whole walk with the components of a name
walked : (m : Model) (origin : ℕ) (cs : List Component) (x : Match) {y : Match} (j : ℕ) → Memᴰ y (matches m (row_of origin cs) x)
    → Walked origin cs (get_or x.bindings j none) (get_or y.bindings j none)
walked m origin cs x j i =
    walk_keeps m (λ y. Walked origin cs (get_or x.bindings j none) (get_or y.bindings j none)) (row_of origin cs)
    (λ c k z n e y _ h w. walked_changed j (row_from origin cs k) (cross_changed m c z n e h) w) x (keeps refl) i

module _ (m : Model) (ps : List Component) where
  packet_walked : {x : Match} (j : ℕ) → Memᴰ x (packet_matches m ps) → Walked packet_origin ps none (get_or x.bindings j none)
  unfolding packet_matches packet_trace matches begin no_bindings
  packet_walked {x} j i =
      subst (λ q. Walked packet_origin ps q (get_or x.bindings j none)) (none_there max_tag j) (walked m packet_origin ps (begin m no_bindings) j i)

  -- in a match of the packet name, every binding is the packet's
  pub packet_bound : {x : Match} → Memᴰ x (packet_matches m ps) → (t : ℕ) {d : Binding} → bound x.bindings t ≡ some d
      → (d.origin ≡ packet_origin) × Memᴰ d.component ps
  unfolding bound
  packet_bound i zero e = clash (cc)
  packet_bound {x} i (suc j) {d} e = go (packet_walked j i)
    where
      go : Walked packet_origin ps none (get_or x.bindings j none) → (d.origin ≡ packet_origin) × Memᴰ d.component ps
      go (keeps k) = clash (cc)
      go (binds b _ f o k) =
          let same : b ≡ d = cc in
          subst (λ (d : Binding). (d.origin ≡ packet_origin) × Memᴰ d.component ps) same (o, k)

module _ (m : Model) (ps ks : List Component) where
  key_walked : (x : Match) {y : Match} (j : ℕ) → Memᴰ y (key_matches m ks x) → Walked key_origin ks (get_or x.bindings j none) (get_or y.bindings j none)
  unfolding key_matches key_trace matches begin
  key_walked x j i = walked m key_origin ks (begin m x.bindings) j i

  -- in an allowed pair, every binding is of the name where its Tag was first bound
  pub first_bound : {x y : Match} → Allowed m ps ks x y → (t : ℕ) → FirstBound ps ks (bound x.bindings t) (bound y.bindings t)
  unfolding bound
  first_bound a zero = unbound refl
  first_bound {x} {y} a (suc j) = go (get_or x.bindings j none) (get_or y.bindings j none) refl refl (key_walked x j a.key_match)
    where
      go : (q r : Option Binding) → get_or x.bindings j none ≡ q → get_or y.bindings j none ≡ r
          → Walked key_origin ks (get_or x.bindings j none) (get_or y.bindings j none)
          → FirstBound ps ks (get_or x.bindings j none) (get_or y.bindings j none)
      go none none e f w = rw (e, f) (unbound refl)
      go (some d) none e f (keeps k) = clash (cc)
      go (some d) none e f (binds b u k o i) = clash (cc)
      go none (some d) e f (keeps k) = clash (cc)
      go none (some d) e f (binds b u k o i) =
          let same : b ≡ d = cc in
          rw (e, f) (by_key refl (ap (λ (d : Binding). d.origin) (sym same) ∙ o) (Memᴰ.cast (ap (λ (d : Binding). d.component) (sym same)) i))
      go (some d) (some c) e f (binds b u k o i) = clash (cc)
      go (some d) (some c) e f (keeps k) =
          let (o, i) = packet_bound m ps a.packet_match (suc j) e in
          let same : c ≡ d = cc in
          rw (e, f, same) (by_packet refl o i)

-- ---- and stands there

-- the binding of a match
pub match_stands : {b name buffer after : List ℕ} {v n : ℕ} (by : MatchedBy b name buffer v n after) → Bytes name → (t : ℕ) {d : Binding}
    → bound by.match.bindings t ≡ some d → (d.origin ≡ packet_origin) × StandsIn name d.component
unfolding packet_name
match_stands {name = name} by bytes t e =
    let (o, i) = packet_bound by.model by.components (first_in _ by.first_match) t e in
    (o, component_stands 21 name bytes by.inputs.name_good i)

-- that of an allowed pair
pub pair_stands : {b packet key : List ℕ} {s : Buffers} {p k : ℕ} {after : Buffers} (by : SignedBy b packet key s p k after) → Bytes packet → Bytes key
    → (t : ℕ) {d : Binding} → bound by.pair.key.bindings t ≡ some d → Whose packet key d
unfolding packet_name key_name
pair_stands {packet = packet} {key = key} by packet-bytes key-bytes t {d} e =
    go (bound by.pair.key.bindings t) e (first_bound by.model by.packet_components by.key_components by.allowed t)
  where
    go : (o : Option Binding) → o ≡ some d → FirstBound by.packet_components by.key_components (bound by.pair.packet.bindings t) o
        → Whose packet key d
    go none e f = clash (cc)
    go (some c) e (by_packet _ o i) =
        let same : c ≡ d = cc in
        subst (Whose packet key) same (in_packet o (component_stands 21 packet packet-bytes by.inputs.packet_good i))
    go (some c) e (by_key _ o i) =
        let same : c ≡ d = cc in
        subst (Whose packet key) same (in_key o (component_stands 24 key key-bytes by.inputs.key_good i))
