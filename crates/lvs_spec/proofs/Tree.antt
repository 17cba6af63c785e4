-- In an accepted model the Nodes that are reached from the start form a tree, by rules 7, 8, 11, 13 and 14. Assumes nothing.
use Prim.Native.Nat.{ℕ, zero, suc, ◌+◌, ◌<◌, ◌≤◌}
use mathlib.Core.Path.{◌≡◌, refl, sym, ap, ◌∙◌, subst}
use mathlib.Core.Bool.{Bool, true, false, false≢true}
use mathlib.Core.List.{List, [], ◌∷◌, ◌++◌, append_assoc, append-nil, append_cancel_left, Memᴰ}
use mathlib.Core.Option.{Option, none, some, none-ne-some, some-injective}
use native.Mathlib.Omega.{arith}
use borrow.Author.Tests.{leb-true, leb-false, eqb-true, eqb-false, eq-eqb, not-false}
use lib.Dec.{leb, eqb}
use lib.ListN.{length, get_or, get_elem?, get_or-eq_default}
use Rattle.tlv.specs.Lists.{bind, any, is, is_some, member, twice}
use Rattle.lvs_spec.specs.Model.{Model, Node, destination, edges, no_node, node_at, model_of}
use Rattle.lvs_spec.specs.Verdict.{Verdict, Test, destinations, names_none, not_parent, start_has_parent, parallel_edges}
use Rattle.lvs_spec.specs.Verdict.{first_fault, fault, rules, judge, verdict}
use Rattle.lvs_spec.specs.Walk.{Binding, Bindings, Match, begin, matches, follow}
use Rattle.lvs_spec.specs.Tree.{arrive, Reaches, Leads, IsTree}
use Rattle.lvs_spec.proofs.Lists.{clash, bind_from, get_elem_in, get_elem_lt, get_elem_get_d, get_elem_map}
use Rattle.lvs_spec.proofs.Grammar.{neither}
use Rattle.lvs_spec.proofs.Trace.{cross_node, cross_path, Keeps, walk_keeps}
use Rattle.lvs_spec.proofs.Follow.{way_follow, own_way}
use Rattle.lvs_spec.proofs.Rules.{judge_kept}
use Rattle.lvs_spec.proofs.Reading.{accepted_judged}

-- ---- what the rules say of edges

-- no Node is at fault where there is no first
no_fault : (f : ℕ → Node → Bool) (k : ℕ) (ns : List Node) → first_fault f k ns ≡ none → (i : ℕ) → i < length ns → f (k + i) (get_or ns i no_node) ≡ false
unfolding first_fault
no_fault f k [] h i l = absurd (omega arith)
no_fault f k (n ∷ ns) h i l = go (f k n) refl i l (λ h. no_fault f (suc k) ns h)
  where
    go : (b : Bool) → f k n ≡ b → (i : ℕ) → i < suc (length ns)
        → (first_fault f (suc k) ns ≡ none → (j : ℕ) → j < length ns → f (suc k + j) (get_or ns j no_node) ≡ false)
        → f (k + i) (get_or (n ∷ ns) i no_node) ≡ false
    go true e i l rec = let h' : some k ≡ none = rw (e, first_fault) at h in clash (cc)
    go false e zero l rec = let z : k + zero ≡ k = omega arith in rw z e
    go false e (suc j) l rec =
        let h' : first_fault f (suc k) ns ≡ none = rw (e, first_fault) at h in
        let z : k + suc j ≡ suc k + j = omega arith in
        rw z (rec h' j (omega arith))

any_false : {A : Type 0} (f : A → Bool) {x : A} {xs : List A} → any f xs ≡ false → Memᴰ x xs → f x ≡ false
any_false f h (Memᴰ.head {x = y} {xs = ys} e) = ap f e ∙ (neither (f y) (any f ys) h).0
any_false f h (Memᴰ.tail {x = y} {xs = ys} i) = any_false f (neither (f y) (any f ys) h).1 i

is_there : (v : ℕ) (o : Option ℕ) → is (eqb v) o ≡ true → o ≡ some v
is_there v none h = absurd (false≢true h)
is_there v (some w) h = ap some (sym (eqb-true v w h))

none_there : {A : Type 0} (o : Option A) → is_some o ≡ false → o ≡ none
none_there none h = refl
none_there (some a) h = absurd (false≢true (sym h))

-- where no number stands twice, each has one place
not_again : (x : ℕ) (xs : List ℕ) → twice (x ∷ xs) ≡ false → (j : ℕ) {d : ℕ} → some x ≡ some d → get_elem? xs j ≡ some d → ⊥
not_again x xs t j {d} e b =
    eqb-false x d (any_false (eqb x) (neither (member x xs) (twice xs) t).0 (get_elem_in xs j b)) (some-injective x d e)

one_place : (ds : List ℕ) → twice ds ≡ false → (i j : ℕ) {d : ℕ} → get_elem? ds i ≡ some d → get_elem? ds j ≡ some d → i ≡ j
one_place [] t i j {d} a b = absurd (none-ne-some d a)
one_place (x ∷ xs) t zero zero a b = refl
one_place (x ∷ xs) t zero (suc j) a b = absurd (not_again x xs t j a b)
one_place (x ∷ xs) t (suc i) zero a b = absurd (not_again x xs t i b a)
one_place (x ∷ xs) t (suc i) (suc j) a b = ap suc (one_place xs (neither (member x xs) (twice xs) t).1 i j a b)

-- only a Node of the model has edges
pub leads_inside : (m : Model) (v i d : ℕ) → Leads m v i d → v < length m.nodes
unfolding node_at no_node destinations edges
leads_inside m v i d h = go (leb (length m.nodes) v) refl
  where
    go : (b : Bool) → leb (length m.nodes) v ≡ b → v < length m.nodes
    go true e =
        let l : length m.nodes ≤ v = leb-true (length m.nodes) v e in
        absurd (none-ne-some d (rw (get_or-eq_default m.nodes no_node l) at h))
    go false e = leb-false (length m.nodes) v e

-- an accepted model's start is a Node without a Parent; its edges lead to Nodes whose Parent is the edge's Node, no two of one Node to the same
record Lawful (m : Model) : Type 0 where
  start_inside : m.start < length m.nodes
  inside : (v i d : ℕ) → Leads m v i d → d < length m.nodes
  child : (v i d : ℕ) → Leads m v i d → (node_at m d).parent ≡ some v
  root : (node_at m m.start).parent ≡ none
  single : (v i j d : ℕ) → Leads m v i d → Leads m v j d → i ≡ j

module _ (m : Model) where
  not_at_fault : (f : ℕ → Node → Bool) → first_fault f 0 m.nodes ≡ none → (v : ℕ) → v < length m.nodes → f v (node_at m v) ≡ false
  unfolding node_at
  not_at_fault f h v l = let z : 0 + v ≡ v = omega arith in rw z at (no_fault f 0 m.nodes h v l)

  -- where a test of destinations finds no fault, no edge's destination is at fault
  led_past : (f : ℕ → ℕ → Bool) → first_fault (λ i n. any (f i) (destinations n)) 0 m.nodes ≡ none → (v i d : ℕ) → Leads m v i d → f v d ≡ false
  led_past f h v i d l =
      any_false (f v) {xs = destinations (node_at m v)} (not_at_fault (λ i n. any (f i) (destinations n)) h v (leads_inside m v i d l)) (get_elem_in _ i l)

  has_node : (v : ℕ) → names_none m v ≡ false → v < length m.nodes
  unfolding names_none
  has_node v h = leb-false _ _ h

  start_kept : fault m (Test.whole (names_none m m.start)) ≡ none → m.start < length m.nodes
  unfolding fault
  start_kept h = go (names_none m m.start) refl
    where
      go : (b : Bool) → names_none m m.start ≡ b → m.start < length m.nodes
      go true e = let h' : ◌≡◌ {A = Option ℕ} (some 0) none = rw e at h in clash (cc)
      go false e = has_node m.start e

  child_kept : (v d : ℕ) → not_parent m v d ≡ false → (node_at m d).parent ≡ some v
  unfolding not_parent node_at
  child_kept v d f =
      let (n, a, b) = bind_from (get_elem? m.nodes d) (λ n. n.parent) (is_there v _ (not-false _ f)) in
      let e : some n ≡ some (get_or m.nodes d no_node) = sym a ∙ get_elem_get_d m.nodes d no_node (get_elem_lt m.nodes d a) in
      ap (λ (x : Node). x.parent) (sym (some-injective _ _ e)) ∙ b

  root_kept : start_has_parent m m.start (node_at m m.start) ≡ false → (node_at m m.start).parent ≡ none
  unfolding start_has_parent
  root_kept h = none_there _ (rw (eq-eqb m.start m.start refl) at h)

  single_kept : (v i j d : ℕ) → parallel_edges (node_at m v) ≡ false → Leads m v i d → Leads m v j d → i ≡ j
  unfolding parallel_edges
  single_kept v i j d h a b = one_place (destinations (node_at m v)) h i j a b

  lawful : {n : ℕ} → judge m ≡ Verdict.accepted n → Lawful m
  unfolding rules fault
  lawful h =
      let from7 = (judge_kept m h).1.1.1 in
      let from11 = from7.1.1.1.1 in
      let from13 = from11.1.1 in
      let start = start_kept from7.0 in
      record {
        start_inside = start;
        inside = λ v i d l. has_node d (led_past (λ i d. names_none m d) from7.1.0 v i d l);
        child = λ v i d l. child_kept v d (led_past (not_parent m) from11.0 v i d l);
        root = root_kept (not_at_fault (start_has_parent m) from13.0 m.start start);
        single = λ v i j d a b. single_kept v i j d (not_at_fault (λ i n. parallel_edges n) from13.1.0 v (leads_inside m v i d a)) a b;
      }

-- ---- paths grow at their end

snoc_induction : (P : List ℕ → Type 0) → P [] → ((p : List ℕ) (i : ℕ) → P p → P (p ++ (i ∷ []))) → (p : List ℕ) → P p
snoc_induction P base step p = go p [] base
  where
    go : (q p : List ℕ) → P p → P (p ++ q)
    go [] p h = rw append-nil h
    go (i ∷ q) p h = subst P (append_assoc p (i ∷ []) q) (go q (p ++ (i ∷ [])) (step p i h))

arrive_append : (m : Model) (v : ℕ) (p q : List ℕ) → arrive m v (p ++ q) ≡ bind (arrive m v p) (λ u. arrive m u q)
unfolding arrive
arrive_append m v [] q = refl
arrive_append m v (i ∷ p) q = go (get_elem? (destinations (node_at m v)) i) (λ d. arrive_append m d p q)
  where
    go : (o : Option ℕ) → ((d : ℕ) → arrive m d (p ++ q) ≡ bind (arrive m d p) (λ u. arrive m u q))
        → bind o (λ d. arrive m d (p ++ q)) ≡ bind (bind o (λ d. arrive m d p)) (λ u. arrive m u q)
    go none rec = refl
    go (some d) rec = rec d

-- from where a path leads on, it leads on from its start
arrive_on : (m : Model) (v u : ℕ) (p q : List ℕ) {d : ℕ} → arrive m v p ≡ some u → arrive m u q ≡ some d → arrive m v (p ++ q) ≡ some d
arrive_on m v u p q a b = arrive_append m v p q ∙ ap (λ o. bind o (λ u. arrive m u q)) a ∙ b

-- the last edge of a path
arrive_last : (m : Model) (v : ℕ) (p : List ℕ) (i d : ℕ) → arrive m v (p ++ (i ∷ [])) ≡ some d → (u : ℕ) × (arrive m v p ≡ some u) × Leads m u i d
unfolding arrive
arrive_last m v p i d h =
    let (u, a, b) = bind_from (arrive m v p) _ (sym (arrive_append m v p (i ∷ [])) ∙ h) in
    let (e, c, f) = bind_from (get_elem? (destinations (node_at m u)) i) _ b in
    (u, a, c ∙ f)

-- ---- the tree

module _ {m : Model} (law : Lawful m) where
  reached_inside : (p : List ℕ) (v : ℕ) → Reaches m p v → v < length m.nodes
  unfolding arrive
  reached_inside =
      snoc_induction (λ p. (v : ℕ) → Reaches m p v → v < length m.nodes)
      (λ v h. subst (λ w. w < length m.nodes) (some-injective _ v h) law.start_inside)
      (λ p i rec v h. let (u, a, l) = arrive_last m m.start p i v h in law.inside u i v l)

  -- only the empty path leads to the start, which has no Parent
  start_alone : (p : List ℕ) (i : ℕ) → ¬ Reaches m (p ++ (i ∷ [])) m.start
  start_alone p i h =
      let (u, a, l) = arrive_last m m.start p i m.start h in
      none-ne-some u (sym law.root ∙ law.child u i m.start l)

  -- by an edge's destination its Node is known, by rule 11, and then its ordinal, by rule 14
  same_edge : (v w i j d : ℕ) → Leads m v i d → Leads m w j d → (v ≡ w) × (i ≡ j)
  same_edge v w i j d a b =
      let e : v ≡ w = some-injective v w (sym (law.child v i d a) ∙ law.child w j d b) in
      (e, law.single v i j d a (subst (λ x. Leads m x j d) (sym e) b))

  -- so by its end a path is known edge by edge
  reached_once : (p q : List ℕ) (v : ℕ) → Reaches m p v → Reaches m q v → p ≡ q
  unfolding arrive
  reached_once =
      snoc_induction (λ p. (q : List ℕ) (v : ℕ) → Reaches m p v → Reaches m q v → p ≡ q)
      (snoc_induction (λ q. (v : ℕ) → Reaches m [] v → Reaches m q v → [] ≡ q) (λ v a b. refl)
      (λ q j _ v a b. absurd (start_alone q j (at_start q j v a b))))
      (λ p i rec.
      snoc_induction (λ q. (v : ℕ) → Reaches m (p ++ (i ∷ [])) v → Reaches m q v → p ++ (i ∷ []) ≡ q)
      (λ v a b. absurd (start_alone p i (at_start p i v b a)))
      (λ q j _ v a b. last p i rec q j v (arrive_last m m.start p i v a) (arrive_last m m.start q j v b)))
    where
      at_start : (p : List ℕ) (i v : ℕ) → Reaches m [] v → Reaches m (p ++ (i ∷ [])) v → Reaches m (p ++ (i ∷ [])) m.start
      at_start p i v a b = subst (Reaches m (p ++ (i ∷ []))) (sym (some-injective m.start v a)) b

      last : (p : List ℕ) (i : ℕ) → ((q : List ℕ) (v : ℕ) → Reaches m p v → Reaches m q v → p ≡ q) → (q : List ℕ) (j v : ℕ)
          → (u : ℕ) × Reaches m p u × Leads m u i v → (u : ℕ) × Reaches m q u × Leads m u j v → p ++ (i ∷ []) ≡ q ++ (j ∷ [])
      last p i rec q j v (u, a, l) (w, b, k) =
          let (e, g) = same_edge u w i j v l k in
          let f : p ≡ q = rec q u a (subst (Reaches m q) (sym e) b) in
          λ t. f t ++ (g t ∷ [])

  lawful_tree : IsTree m
  lawful_tree =
      record {
        inside = reached_inside;
        once = reached_once;
        acyclic = λ p q v a b. append_cancel_left p q [] (sym (reached_once p (p ++ q) v a (arrive_on m m.start v p q a b)) ∙ sym (append-nil p));
        entered_once = λ p q v w i j d a b. same_edge v w i j d;
        root = law.root;
        parent = λ p v i d a. law.child v i d;
      }

pub judged_tree : (m : Model) {n : ℕ} → judge m ≡ Verdict.accepted n → IsTree m
judged_tree m h = lawful_tree (lawful m h)

-- the model that accepted bytes describe
pub accepted_tree : (b : List ℕ) {n : ℕ} → verdict b ≡ Verdict.accepted n → IsTree (model_of b)
accepted_tree b h = judged_tree (model_of b) (accepted_judged b h)

-- ---- the walk in it

module _ (m : Model) (cs : List Binding) (s : Bindings) where
  -- a match's path reaches its Node
  path_reaches : {x : Match} → Memᴰ x (matches m cs (begin m s)) → Reaches m x.path x.node
  unfolding begin arrive destinations
  path_reaches = walk_keeps m (λ x. Reaches m x.path x.node) cs step (begin m s) refl
    where
      step : Keeps m cs (λ x. Reaches m x.path x.node)
      step c _ x i e y there k h =
          let l : Leads m x.node i (destination e) = get_elem_map destination (edges (node_at m x.node)) i there in
          let p = cross_path m c x i e k in
          let v = cross_node m c x i e k in
          rw (p, v) (arrive_on m m.start x.node x.path (i ∷ []) h (ap (λ (o : Option ℕ). bind o (λ d. arrive m d [])) l))

  -- and is its own
  path_tells : {x y : Match} → Memᴰ x (matches m cs (begin m s)) → Memᴰ y (matches m cs (begin m s)) → x.path ≡ y.path → x ≡ y
  unfolding begin
  path_tells {x} {y} i j e =
      let a = way_follow m (own_way m cs (begin m s) refl i) in
      let b = way_follow m (own_way m cs (begin m s) refl j) in
      some-injective x y (sym a ∙ ap (λ p. follow m cs p (begin m s)) e ∙ b)

  -- so a name leads to a Node in one way at most
  pub matched_once : IsTree m → {x y : Match} → Memᴰ x (matches m cs (begin m s)) → Memᴰ y (matches m cs (begin m s)) → x.node ≡ y.node
      → x ≡ y
  matched_once t {x} {y} i j e =
      path_tells i j (t.once x.path y.path y.node (subst (Reaches m x.path) e (path_reaches i)) (path_reaches j))
