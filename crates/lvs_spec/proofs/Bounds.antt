-- How many edges a call tries at most (docs/format.md, 7.8): in a tree a walk looks at each edge once at most, and has no more matches than
-- there are Nodes. Assumes nothing.
use Prim.Native.Nat.{ℕ, zero, suc, ◌+◌, ◌*◌, ◌<◌, ◌≤◌}
use mathlib.Core.Path.{◌≡◌, refl, sym, ap, ◌∙◌, subst}
use mathlib.Core.Logic.{◌⊎◌, inl, inr}
use mathlib.Core.Bool.{Bool, true, false}
use mathlib.Core.List.{List, [], ◌∷◌, ◌++◌, map, nil≢cons, tail-eq_of_cons-eq}
use mathlib.Core.List.Memᴰ
use mathlib.Core.List.{Memᴰ}
use mathlib.Core.Option.{Option, none, some}
use native.Mathlib.Omega.{arith}
use native.Mathlib.Nat.{suc-mul, mul_comm, mul-le-mul_right, mul-zero, mul-add, mul-one}
use lib.ListN.{length, length-append, length-map, get_elem?}
use Rattle.tlv.specs.Lists.{bind, onward, each, numbered, when}
use Rattle.lvs_spec.specs.Model.{Model, Edge, destination, edges, no_node, node_at, edge_count}
use Rattle.lvs_spec.specs.Verdict.{destinations}
use Rattle.lvs_spec.specs.Names.{Component}
use Rattle.lvs_spec.specs.Walk.{Binding, Bindings, packet_row, key_row, Match, Pair, Event, looked, found, continue, found_in, answers, tried}
use Rattle.lvs_spec.specs.Walk.{begin, no_bindings, cross, trace, packet_trace, key_trace, lists, signed, sign_trace, pair_trace}
use Rattle.lvs_spec.specs.Tree.{arrive, Reaches, IsTree}
use Rattle.lvs_spec.proofs.Lists.{each_in, each_from, each_append, get_elem_in, get_elem_get_d, get_elem_map, map_in, map-from, numbered_at}
use Rattle.lvs_spec.proofs.Distinct.{below, below_length, below_in, Distinct, distinct_map, distinct_each, pigeonhole}
use Rattle.lvs_spec.proofs.Trace.{cross_node}
use Rattle.lvs_spec.proofs.Tree.{leads_inside}

-- ---- all edges that a trace looks at, those after an answer included

module _ {A : Type 0} where
  abbrev looks : List (Event A) → ℕ
  looks [] = 0
  looks (looked ∷ t) = suc (looks t)
  looks (found a ∷ t) = looks t

  tried_looks : (t : List (Event A)) → tried t ≤ looks t
  tried_looks [] = omega arith
  tried_looks (looked ∷ t) = omega (arith, tried_looks t)
  tried_looks (found a ∷ t) = omega arith

  looks_append : (s t : List (Event A)) → looks (s ++ t) ≡ looks s + looks t
  looks_append [] t = omega arith
  looks_append (looked ∷ s) t = omega (arith, looks_append s t)
  looks_append (found a ∷ s) t = looks_append s t

  looks_each : {B C : Type 0} (f : B → List (Event A)) (g : B → List C) → ((b : B) → looks (f b) ≤ length (g b)) → (bs : List B)
      → looks (each f bs) ≤ length (each g bs)
  looks_each f g h [] = omega arith
  looks_each f g h (b ∷ bs) = omega (arith, looks_append (f b) (each f bs), length-append (g b) (each g bs), h b, looks_each f g h bs)

  -- where an edge of its own comes before the answers of each, and these are as many as the edges after it, or one more
  each_answers : {B : Type 0} (f : B → List (Event A)) → ((b : B) → length (answers (f b)) ≤ suc (looks (f b))) → (bs : List B)
      → let t = each (λ b. looked ∷ f b) bs in length (answers t) ≤ looks t
  each_answers f h [] = omega arith
  each_answers f h (b ∷ bs) =
      let rest = each (λ b. looked ∷ f b) bs in
      let split = ap length (each_append found_in (f b) rest) ∙ length-append (answers (f b)) (answers rest) in
      omega (arith, split, looks_append (f b) rest, h b, each_answers f h bs)

-- ---- the paths from a Node on

-- the edge of ordinal i alone, and before each of these paths
abbrev branch : ℕ → List (List ℕ) → List (List ℕ)
branch i ps = (i ∷ []) ∷ map (λ p. i ∷ p) ps

branch_from : (i : ℕ) (ps : List (List ℕ)) {p : List ℕ} → Memᴰ p (branch i ps) → (q : List ℕ) × (p ≡ i ∷ q) × ((q ≡ []) ⊎ Memᴰ q ps)
branch_from i ps {p} j = go (Memᴰ.cases_cons j)
  where
    go : (p ≡ i ∷ []) ⊎ Memᴰ p (map (λ q. i ∷ q) ps) → (q : List ℕ) × (p ≡ i ∷ q) × ((q ≡ []) ⊎ Memᴰ q ps)
    go (inl h) = ([], h, inl refl)
    go (inr k) = let (q, a, h) = map-from (λ q. i ∷ q) ps k in (q, h, inr a)

branch_distinct : (i : ℕ) (ps : List (List ℕ)) → ¬ Memᴰ [] ps → Distinct ps → Distinct (branch i ps)
branch_distinct i ps none-empty distinct = (
  λ j. let (q, a, h) = map-from (λ p. i ∷ p) ps j in none-empty (subst (λ p. Memᴰ p ps) (sym (tail-eq_of_cons-eq h)) a),
  distinct_map (λ p. i ∷ p) (λ p q h. tail-eq_of_cons-eq h) ps distinct,
)

module _ (m : Model) where
  -- those of one edge or more, and d at most
  abbrev paths : ℕ → ℕ → List (List ℕ)
  paths zero v = []
  paths (suc d) v = each (λ (i, e). branch i (paths d (destination e))) (numbered 0 (edges (node_at m v)))

  path_from : (d v : ℕ) {p : List ℕ} → Memᴰ p (paths (suc d) v)
      → (i : ℕ) × (e : Edge) × (q : List ℕ) × (get_elem? (edges (node_at m v)) i ≡ some e) × (p ≡ i ∷ q) × ((q ≡ []) ⊎ Memᴰ q (paths d (destination e)))
  path_from d v j =
      let (e, a, b) = each_from (λ (i, e). branch i (paths d (destination e))) (numbered 0 (edges (node_at m v))) j in
      let (q, h, k) = branch_from e.0 (paths d (destination e.1)) b in
      (e.0, e.1, q, numbered_at (edges (node_at m v)) a, h, k)

  not_empty : (d v : ℕ) → ¬ Memᴰ [] (paths d v)
  not_empty zero v j = Memᴰ.not-nil j
  not_empty (suc d) v j = let (i, e, q, a, h, k) = path_from d v j in nil≢cons h

  -- no two are the same
  paths_distinct : (d v : ℕ) → Distinct (paths d v)
  paths_distinct zero v = tt
  paths_distinct (suc d) v =
      distinct_each (λ (i, e). branch i (paths d (destination e))) (λ (i, e) y j. let (q, h, _) = branch_from i (paths d (destination e)) j in (q, h))
      (λ (i, e). branch_distinct i (paths d (destination e)) (not_empty d (destination e)) (paths_distinct d (destination e))) 0 (edges (node_at m v))

  -- where the model's edges lead to
  abbrev ends : List ℕ
  ends = map destination (each edges m.nodes)

  among : (v i : ℕ) (e : Edge) → get_elem? (edges (node_at m v)) i ≡ some e → Memᴰ (destination e) ends
  unfolding node_at destinations
  among v i e h =
      let inside = leads_inside m v i (destination e) (get_elem_map destination (edges (node_at m v)) i h) in
      map_in destination (each_in edges (get_elem_in m.nodes v (get_elem_get_d m.nodes v no_node inside)) (get_elem_in (edges (node_at m v)) i h))

  -- a path leads from v along edges of the model
  abbrev Led : ℕ → List ℕ → Type 0
  Led v p = (u : ℕ) × Memᴰ u ends × (arrive m v p ≡ some u)

  paths_lead : (d v : ℕ) {p : List ℕ} → Memᴰ p (paths d v) → Led v p
  unfolding arrive destinations
  paths_lead zero v j = absurd (Memᴰ.not-nil j)
  paths_lead (suc d) v {p} j =
      let (i, e, q, at, h, k) = path_from d v j in
      let (u, a, b) = go i e q at k (λ k. paths_lead d (destination e) k) in
      (u, a, ap (arrive m v) h ∙ ap (λ o. bind o (λ w. arrive m w q)) (get_elem_map destination (edges (node_at m v)) i at) ∙ b)
    where
      go : (i : ℕ) (e : Edge) (q : List ℕ) → get_elem? (edges (node_at m v)) i ≡ some e → (q ≡ []) ⊎ Memᴰ q (paths d (destination e))
          → (Memᴰ q (paths d (destination e)) → Led (destination e) q) → Led (destination e) q
      go i e q at (inl z) rec = (destination e, among v i e at, ap (arrive m (destination e)) z)
      go i e q at (inr k) rec = rec k

  -- a walk looks at no more edges than there are paths from where it stands
  trace_looks : (cs : List Binding) (x : Match) → looks (trace m cs x) ≤ length (paths (length cs) x.node)
  unfolding trace
  trace_looks [] x = omega arith
  trace_looks (c ∷ cs) x =
      looks_each (λ (i, e). looked ∷ onward (trace m cs) (cross m c x i e)) (λ (i, e). branch i (paths (length cs) (destination e)))
      (λ (i, e). step i e (cross m c x i e) refl (trace_looks cs)) (numbered 0 (edges (node_at m x.node)))
    where
      step : (i : ℕ) (e : Edge) (o : Option Match) → cross m c x i e ≡ o
          → ((y : Match) → looks (trace m cs y) ≤ length (paths (length cs) y.node))
          → suc (looks (onward (trace m cs) o)) ≤ length (branch i (paths (length cs) (destination e)))
      step i e none h rec = omega arith
      step i e (some y) h rec =
          let node = cross_node m c x i e h in
          omega (arith, rec y, ap (λ v. length (paths (length cs) v)) node, length-map (paths (length cs) (destination e)) (λ p. i ∷ p))

  -- its matches are as many as these edges, or one more: each but that of the empty name comes after an edge of its own
  trace_answers : (cs : List Binding) (x : Match) → length (answers (trace m cs x)) ≤ suc (looks (trace m cs x))
  unfolding trace
  trace_answers [] x = omega arith
  trace_answers (c ∷ cs) x =
      omega (
        arith,
        each_answers (λ (i, e). onward (trace m cs) (cross m c x i e)) (λ (i, e). stepped (cross m c x i e) (trace_answers cs))
            (numbered 0 (edges (node_at m x.node))),
      )
    where
      stepped : (o : Option Match) → ((y : Match) → length (answers (trace m cs y)) ≤ suc (looks (trace m cs y)))
          → length (answers (onward (trace m cs) o)) ≤ suc (looks (onward (trace m cs) o))
      stepped none rec = omega arith
      stepped (some y) rec = rec y

-- ---- one walk in a tree

module _ {m : Model} (tree : IsTree m) where
  -- no two paths from the start lead to the same Node
  few_paths : (d : ℕ) → (length (paths m d m.start) ≤ edge_count m) × (length (paths m d m.start) < length m.nodes)
  unfolding edge_count arrive
  few_paths d =
      let ps = paths m d m.start in
      let nodes = below (length m.nodes) in
      let distinct = paths_distinct m d m.start in
      let led : length ps ≤ length (ends m) = pigeonhole (Reaches m) tree.once ps (ends m) distinct (λ p i. paths_lead m d m.start i) in
      let ended : suc (length ps) ≤ length nodes =
      pigeonhole (Reaches m) tree.once ([] ∷ ps) nodes (not_empty m d m.start, distinct) (λ p i. place p (Memᴰ.cases_cons i)) in
      (omega (arith, led, length-map (each edges m.nodes) destination), omega (arith, ended, below_length (length m.nodes)))
    where
      place : (p : List ℕ) → (p ≡ []) ⊎ Memᴰ p (paths m d m.start) → (v : ℕ) × Memᴰ v (below (length m.nodes)) × Reaches m p v
      place p (inl e) = let r = ap (arrive m m.start) e in (m.start, below_in (length m.nodes) m.start (tree.inside p m.start r), r)
      place p (inr i) = let (v, _, r) = paths_lead m d m.start i in (v, below_in (length m.nodes) v (tree.inside p v r), r)

  module _ (cs : List Binding) (s : Bindings) where
    abbrev t : List (Event Match)
    t = trace m cs (begin m s)

    walk_edges : looks t ≤ edge_count m
    unfolding begin
    walk_edges = omega (arith, trace_looks m cs (begin m s), (few_paths (length cs)).0)

    walk_nodes : looks t < length m.nodes
    unfolding begin
    walk_nodes = omega (arith, trace_looks m cs (begin m s), (few_paths (length cs)).1)

    walk_answers : length (answers t) ≤ length m.nodes
    walk_answers = omega (arith, trace_answers m cs (begin m s), walk_nodes)

-- ---- the key's walk after each match of the packet

-- where each answer goes on with at most b edges
continue_looks : {A B : Type 0} (f : A → List (Event B)) (b : ℕ) → ((a : A) → looks (f a) ≤ b) → (t : List (Event A))
    → looks (each (continue f) t) ≤ looks t + length (answers t) * b
continue_looks f b h [] = omega arith
continue_looks f b h (looked ∷ t) = omega (arith, continue_looks f b h t)
continue_looks f b h (found a ∷ t) =
    let n = length (answers t) in
    let e : suc n * b ≡ n * b + b = suc-mul n b in
    omega (arith, e, looks_append (f a) (each (continue f) t), h a, continue_looks f b h t)

signed_looks : (m : Model) (x y : Match) → looks (signed m x y) ≤ 0
unfolding signed
signed_looks m x y = go (lists m x.node y.node)
  where
    go : (t : Bool) → looks {A = Pair} (when t (found (record { packet = x; key = y }))) ≤ 0
    go true = omega arith
    go false = omega arith

key_looks : (m : Model) (key : List Component) (x : Match) → looks (sign_trace m key x) ≤ looks (key_trace m key x)
unfolding sign_trace
key_looks m key x =
    let t = key_trace m key x in
    let none_more : length (answers t) * 0 ≡ 0 = mul-zero (length (answers t)) in
    omega (arith, none_more, continue_looks (signed m x) 0 (signed_looks m x) t)

module _ {m : Model} (tree : IsTree m) where
  -- one match call tries at most as many edges as the model has, and fewer than it has Nodes
  pub match_tries : (packet : List Component) → (tried (packet_trace m packet) ≤ edge_count m) × (tried (packet_trace m packet) < length m.nodes)
  unfolding packet_trace
  match_tries packet =
      let some_Looks = tried_looks (packet_trace m packet) in
      (omega (arith, some_Looks, walk_edges tree (packet_row packet) no_bindings), omega (arith, some_Looks, walk_nodes tree (packet_row packet) no_bindings))

  -- where the key's walk looks at most at b edges
  pairs_looks : (packet key : List Component) (b : ℕ) → ((s : Bindings) → looks (trace m (key_row key) (begin m s)) ≤ b)
      → tried (pair_trace m packet key) ≤ looks (packet_trace m packet) + length m.nodes * b
  unfolding pair_trace key_trace packet_trace
  pairs_looks packet key b h =
      let t = packet_trace m packet in
      let all = continue_looks (sign_trace m key) b (λ x. omega (arith, key_looks m key x, h x.bindings)) t in
      let few : length (answers t) * b ≤ length m.nodes * b = mul-le-mul_right b (walk_answers tree (packet_row packet) no_bindings) in
      omega (arith, tried_looks (pair_trace m packet key), all, few)

  -- one signing call at most that number times one more than the number of Nodes
  pub sign_tries : (packet key : List Component) → tried (pair_trace m packet key) ≤ edge_count m * (length m.nodes + 1)
  unfolding packet_trace
  sign_tries packet key =
      let n = length m.nodes in
      let b = edge_count m in
      let e : b * (n + 1) ≡ b * n + b = mul-add b n 1 ∙ ap (λ k. b * n + k) (mul-one b) in
      omega (arith, e, mul_comm b n, pairs_looks packet key b (λ s. walk_edges tree (key_row key) s), walk_edges tree (packet_row packet) no_bindings)

  -- and at most the square of the number of Nodes, and that number once more
  pub sign_tries_nodes : (packet key : List Component) → tried (pair_trace m packet key) ≤ length m.nodes + length m.nodes * length m.nodes
  unfolding packet_trace
  sign_tries_nodes packet key =
      let key-few : (s : Bindings) → looks (trace m (key_row key) (begin m s)) ≤ length m.nodes = λ s. omega (arith, walk_nodes tree (key_row key) s) in
      omega (arith, pairs_looks packet key (length m.nodes) key-few, walk_nodes tree (packet_row packet) no_bindings)
