-- A path says enough: whoever made it, one that can be followed leads to two matches that are allowed, and the path of two such matches can be
-- followed. Assumes nothing.
use Prim.Native.Nat.{ℕ, suc, ◌+◌, ◌≤◌, ◌<◌}
use mathlib.Core.Path.{◌≡◌, refl, sym, ap, ◌∙◌, subst}
use mathlib.Core.Logic.{◌⊎◌, inl, inr, ⊎_elim}
use mathlib.Core.List.Memᴰ
use mathlib.Core.List.{List, [], ◌∷◌, ◌++◌, append_assoc, append-nil, Memᴰ}
use mathlib.Core.Option.{Option, none, some, none-ne-some, some-injective}
use native.Mathlib.Omega.{arith}
use lib.ListN.{length, length-append, length-map, get_elem?, take, drop, take-append-drop}
use lib.Seq.{take_at, drop_at}
use Rattle.tlv.specs.Lists.{bind, onward}
use Rattle.lvs_spec.specs.Model.{Model, edges, node_at}
use Rattle.lvs_spec.specs.Names.{Component}
use Rattle.lvs_spec.specs.Walk.{Binding, row_of, packet_row, key_row, Match, Pair, no_bindings, begin, cross, matches, packet_trace, key_trace}
use Rattle.lvs_spec.specs.Walk.{packet_matches, key_matches, pair_path, lists, follow, follow_pair}
use Rattle.lvs_spec.specs.Demands.{Allowed, Way, arrived, crossing, Followed}
use Rattle.lvs_spec.proofs.Lists.{each_in, each_from, bind_from, guard_from, get_elem_lt, at_numbered}
use Rattle.lvs_spec.proofs.Trace.{crossings, matches_end, matches_step, cross_path, crossing_from}

module _ (m : Model) where
  -- ---- what `follow` computes is a way

  pub follow_way : (cs : List Binding) (p : List ℕ) (x : Match) {y : Match} → follow m cs p x ≡ some y → Way m cs p x y
  unfolding follow
  follow_way [] [] x {y} h = subst (Way m [] [] x) (some-injective x y h) arrived
  follow_way [] (i ∷ p) x {y} h = absurd (none-ne-some y h)
  follow_way (c ∷ cs) [] x {y} h = absurd (none-ne-some y h)
  follow_way (c ∷ cs) (i ∷ p) x {y} h =
      let (z, a, b) = bind_from (bind (get_elem? (edges (node_at m x.node)) i) (cross m c x i)) (follow m cs p) h in
      let (e, there, k) = bind_from (get_elem? (edges (node_at m x.node)) i) (cross m c x i) a in
      crossing e there k (follow_way cs p z b)

  pub way_follow : {cs : List Binding} {p : List ℕ} {x y : Match} → Way m cs p x y → follow m cs p x ≡ some y
  unfolding follow
  way_follow arrived = refl
  way_follow {x = x} (crossing {c = c} {cs = cs} {i = i} {p = p} e there k w) =
      ap (λ q. bind (bind q (cross m c x i)) (follow m cs p)) there ∙ ap (λ q. bind q (follow m cs p)) k ∙ way_follow w

  -- it has one word for each component
  pub way_length : {cs : List Binding} {p : List ℕ} {x y : Match} → Way m cs p x y → length p ≡ length cs
  way_length arrived = refl
  way_length (crossing e there k w) = ap suc (way_length w)

  -- which are added to the path
  way_path : {cs : List Binding} {p : List ℕ} {x y : Match} → Way m cs p x y → y.path ≡ x.path ++ p
  way_path {x = x} arrived = sym (append-nil x.path)
  way_path {x = x} (crossing {c = c} {i = i} {p = p} e there k w) =
      way_path w ∙ ap (λ q. q ++ p) (cross_path m c x i e k) ∙ append_assoc x.path (i ∷ []) p

  -- each an ordinal of an edge
  way_low : (n : ℕ) → ((v : ℕ) → length (edges (node_at m v)) ≤ n) → {cs : List Binding} {p : List ℕ} {x y : Match} → Way m cs p x y
      → {w : ℕ} → Memᴰ w p → w < n
  way_low n few arrived i = absurd (Memᴰ.not-nil i)
  way_low n few {x = x} (crossing {i = j} {p = p} e there k way) {w} i = go (Memᴰ.cases_cons i) (way_low n few way)
    where
      go : (w ≡ j) ⊎ Memᴰ w p → (Memᴰ w p → w < n) → w < n
      go (inl f) rest = omega (arith, f, few x.node, get_elem_lt (edges (node_at m x.node)) j there)
      go (inr q) rest = rest q

  -- ---- a way leads to a match, and a match has its own way

  crossing_in : (c : Binding) (x : Match) (i : ℕ) {z : Match} {e : _} → get_elem? (edges (node_at m x.node)) i ≡ some e → cross m c x i e ≡ some z
      → Memᴰ z (crossings m c x)
  unfolding crossings
  crossing_in c x i {z} {e} there k =
      each_in (λ (i, e). onward (λ y. y ∷ []) (cross m c x i e)) (at_numbered (edges (node_at m x.node)) i there)
      (subst (λ q. Memᴰ z (onward (λ y. y ∷ []) q)) (sym k) (Memᴰ.head refl))

  pub way_match : {cs : List Binding} {p : List ℕ} {x y : Match} → Way m cs p x y → Memᴰ y (matches m cs x)
  way_match {x = x} {y = y} arrived = subst (Memᴰ y) (sym (matches_end m x)) (Memᴰ.head refl)
  way_match {x = x} {y = y} (crossing {c = c} {cs = cs} {i = i} e there k w) =
      subst (Memᴰ y) (sym (matches_step m c cs x)) (each_in (matches m cs) (crossing_in c x i there k) (way_match w))

  match_way : (cs : List Binding) (x : Match) {y : Match} → Memᴰ y (matches m cs x) → (p : List ℕ) × Way m cs p x y
  match_way [] x {y} i =
      let e : y ≡ x = Memᴰ.eq_of_singleton (subst (Memᴰ y) (matches_end m x) i) in
      ([], subst (Way m [] [] x) (sym e) arrived)
  match_way (c ∷ cs) x {y} i =
      let (z, a, b) = each_from (matches m cs) (crossings m c x) (subst (Memᴰ y) (matches_step m c cs x) i) in
      let (n, e, there, k) = crossing_from m c x a in
      let (p, w) = match_way cs z b in
      (n ∷ p, crossing e there k w)

  -- from where no edge is crossed yet
  pub own_way : (cs : List Binding) (x : Match) {y : Match} → x.path ≡ [] → Memᴰ y (matches m cs x) → Way m cs y.path x y
  own_way cs x {y} e i =
      let (p, w) = match_way cs x i in
      let h : y.path ≡ p = way_path w ∙ ap (λ q. q ++ p) e in
      subst (λ q. Way m cs q x y) (sym h) w

module _ (m : Model) (packet key : List Component) where
  -- ---- what `follow_pair` computes is a pair of ways

  pub pair_followed : (p : List ℕ) {z : Pair} → follow_pair m packet key p ≡ some z → Followed m packet key p z.packet z.key
  unfolding follow_pair
  pair_followed p {z} h =
      let (x, a, h') = bind_from (follow m (packet_row packet) (take (length packet) p) (begin m no_bindings)) _ h in
      let (y, b, h'') = bind_from (follow m (key_row key) (drop (length packet) p) (begin m x.bindings)) _ h' in
      let (l, e) = guard_from (lists m x.node y.node) _ h'' in
      subst (λ (z : Pair). Followed m packet key p z.packet z.key) e (record {
        packet_way = follow_way m (packet_row packet) _ (begin m no_bindings) a;
        key_way = follow_way m (key_row key) _ (begin m x.bindings) b;
        listed = l;
      })

  pub followed_pair : {p : List ℕ} {x y : Match} → Followed m packet key p x y → follow_pair m packet key p ≡ some (record { packet = x; key = y })
  unfolding follow_pair
  followed_pair f = rw (way_follow m f.packet_way, way_follow m f.key_way, f.listed)

  -- the path is that of the two matches
  pub followed_path : {p : List ℕ} {x y : Match} → Followed m packet key p x y → p ≡ pair_path (record { packet = x; key = y })
  unfolding pair_path begin
  followed_path {p} f = sym (take-append-drop (length packet) p) ∙ sym (λ i. way_path m f.packet_way i ++ way_path m f.key_way i)

  -- ---- whoever made the path

  pub followed_allowed : {p : List ℕ} {x y : Match} → Followed m packet key p x y → Allowed m packet key x y
  unfolding packet_matches packet_trace key_matches key_trace matches
  followed_allowed f = record { packet_match = way_match m f.packet_way; key_match = way_match m f.key_way; listed = f.listed }

  -- ---- the path of two matches that are allowed

  module _ {x y : Match} (a : Allowed m packet key x y) where
    packet_own : Way m (packet_row packet) x.path (begin m no_bindings) x
    unfolding packet_matches packet_trace matches begin
    packet_own = own_way m (packet_row packet) (begin m no_bindings) refl a.packet_match

    key_own : Way m (key_row key) y.path (begin m x.bindings) y
    unfolding key_matches key_trace matches begin
    key_own = own_way m (key_row key) (begin m x.bindings) refl a.key_match

    packet_length : length x.path ≡ length packet
    unfolding row_of
    packet_length = way_length m packet_own ∙ length-map packet _

    key_length : length y.path ≡ length key
    unfolding row_of
    key_length = way_length m key_own ∙ length-map key _

    -- it has one word for each component
    pub allowed_length : length (pair_path (record { packet = x; key = y })) ≡ length packet + length key
    unfolding pair_path
    allowed_length = omega (arith, length-append x.path y.path, packet_length, key_length)

    -- each of which is an ordinal
    pub allowed_low : (n : ℕ) → ((v : ℕ) → length (edges (node_at m v)) ≤ n) → {w : ℕ} → Memᴰ w (pair_path (record { packet = x; key = y })) → w < n
    unfolding pair_path
    allowed_low n few i = ⊎_elim (way_low m n few packet_own) (way_low m n few key_own) (Memᴰ.append_cases x.path i)

    -- and leads to them
    pub allowed_followed : Followed m packet key (pair_path (record { packet = x; key = y })) x y
    unfolding pair_path
    allowed_followed =
        record {
          packet_way = rw (take_at x.path y.path (length packet) packet_length) packet_own;
          key_way = rw (drop_at x.path y.path (length packet) packet_length) key_own;
          listed = a.listed;
        }

  -- a path of another length leads nowhere
  pub other_length : (p : List ℕ) → (length p ≡ length packet + length key → ⊥) → follow_pair m packet key p ≡ none
  other_length p h = go (follow_pair m packet key p) refl
    where
      go : (o : Option Pair) → follow_pair m packet key p ≡ o → follow_pair m packet key p ≡ none
      go none e = e
      go (some z) e =
          let f = pair_followed p e in
          absurd (h (ap length (followed_path f) ∙ allowed_length (followed_allowed f)))
