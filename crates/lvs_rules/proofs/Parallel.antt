-- The edges of a Node in one pass, of both kinds as they stand in the file: the rules that their destinations break, and which are there twice.
-- Assumes nothing.
use mathlib.Core.Path.{◌≡◌, refl, sym, ap, ◌∙◌}
use mathlib.Core.Logic.{◌⊎◌, inl, inr, ⊎_elim}
use mathlib.Core.Bool.{Bool, true, false, cond, ◌||◌, or_comm, or-false, or-true}
use mathlib.Core.List.{List, [], ◌∷◌, ◌++◌, map, map-append, map-map, append-nil, append_assoc}
use Prim.Native.Nat.{ℕ, ◌≤◌, ◌<◌, min}
use native.Mathlib.Omega.{arith}
use borrow.Author.Tests.{ne_eqb, eqb-true, eqb-false, leb-true, leb-false, le-leb}
use lib.Dec.{leb, eqb}
use lib.ListN.{length, get_or, set, replicate, length-set, length-replicate, get_or-replicate, get_or-eq_default}
use lib.Seq.{set_out, get_or-set_same, get_or-set_other}
use Rattle.tlv.specs.Element.{Element, Cuts, done, broken as torn, next, cuts}
use Rattle.std.specs.Prelude.{Option as Answer}
use Rattle.tlv.specs.Lists.{each, when, any, member, twice}
use Rattle.tlv.specs.Fields.{each_cut, inside_of, insides, elements, the_integer}
use Rattle.tlv.proofs.Fields.{each_listed}
use Rattle.tlv.proofs.Gathered.{over, any_append}
use Rattle.lvs_spec.specs.Limits.{max_nodes}
use Rattle.lvs_spec.specs.Types as type
use Rattle.lvs_spec.specs.Model.{Edge, destination, edges, value_edge_of, pattern_edge_of, node_of}
use Rattle.lvs_spec.specs.Verdict.{destinations}
use Rattle.tlv.proofs.Iterated.{eqb_sym}
use Rattle.lvs_rules.specs.Lowest.{no_rule, broken, least_of, destination_rule, destinations_rule, Noted}
use Rattle.lvs_rules.proofs.Least.{min_pairs, min_swap, least_append}
use Rattle.lvs_rules.proofs.Loops.{least_more}

-- ---- two lists mixed: each in its order

data Mixed : List ℕ → List ℕ → List ℕ → Type 0 where
  empty : Mixed [] [] []
  left : {x : ℕ} {xs ys zs : List ℕ} → Mixed xs ys zs → Mixed (x ∷ xs) ys (x ∷ zs)
  right : {y : ℕ} {xs ys zs : List ℕ} → Mixed xs ys zs → Mixed xs (y ∷ ys) (y ∷ zs)

or_swap : (a b c : Bool) → a || (b || c) ≡ b || (a || c)
or_swap true true c = refl
or_swap true false c = refl
or_swap false true c = refl
or_swap false false c = refl

mixed_any : (f : ℕ → Bool) {xs ys zs : List ℕ} → Mixed xs ys zs → any f zs ≡ any f (xs ++ ys)
mixed_any f empty = refl
mixed_any f (left {x} h) = ap (λ (b : Bool). f x || b) (mixed_any f h)
mixed_any f (right {y} {xs} {ys} h) =
    ap (λ (b : Bool). f y || b) (mixed_any f h ∙ any_append f xs ys) ∙ or_swap (f y) (any f xs) (any f ys) ∙ sym (any_append f xs (y ∷ ys))

-- one entry, wherever it stands, is there again, or another is there twice
twice_among : (xs : List ℕ) (y : ℕ) (ys : List ℕ) → twice (xs ++ (y ∷ ys)) ≡ member y (xs ++ ys) || twice (xs ++ ys)
twice_among [] y ys = refl
twice_among (x ∷ xs) y ys =
    rw (twice_among xs y ys, any_append (eqb x) xs (y ∷ ys), any_append (eqb x) xs ys, eqb_sym x y)
    (go (any (eqb x) xs) (eqb y x) (any (eqb x) ys) (member y (xs ++ ys)) (twice (xs ++ ys)))
  where
    go : (a e b c t : Bool) → (a || (e || b)) || (c || t) ≡ (e || c) || ((a || b) || t)
    go true true b c t = refl
    go true false b true t = refl
    go true false b false t = refl
    go false true b c t = refl
    go false false true true t = refl
    go false false true false t = refl
    go false false false c t = refl

mixed_twice : {xs ys zs : List ℕ} → Mixed xs ys zs → twice zs ≡ twice (xs ++ ys)
mixed_twice empty = refl
mixed_twice (left {x} h) = rw (mixed_any (eqb x) h, mixed_twice h)
mixed_twice (right {y} {xs} {ys} h) = rw (mixed_any (eqb y) h, mixed_twice h) (sym (twice_among xs y ys))

mixed_least : (g : ℕ → ℕ) {xs ys zs : List ℕ} → Mixed xs ys zs → least_of g zs ≡ least_of g (xs ++ ys)
unfolding least_of
mixed_least g empty = refl
mixed_least g (left {x} h) = ap (min (g x)) (mixed_least g h)
mixed_least g (right {y} {xs} {ys} h) =
    ap (min (g y)) (mixed_least g h ∙ least_append g xs ys) ∙ min_swap (g y) (least_of g xs) (least_of g ys) ∙ sym (least_append g xs (y ∷ ys))

-- ---- the destinations of a Node, as its edges stand in the file

abbrev IsEdge : ℕ → Type 0
IsEdge t = (t ≡ type.ValueEdge) ⊎ (t ≡ type.PatternEdge)

abbrev to : List ℕ → ℕ
to b = the_integer type.NodeId b

unfoldable pub destination_from : Element → List ℕ
destination_from e = when (eqb type.ValueEdge e.type || eqb type.PatternEdge e.type) (to e.inside)

module _ {t : ℕ} (b : List ℕ) where
  a_destination : IsEdge t → destination_from (record { type = t; inside = b }) ≡ to b ∷ []
  unfolding destination_from
  a_destination h = ⊎_elim (λ e. rw e) (λ e. rw e) h

  no_destination : (IsEdge t → ⊥) → destination_from (record { type = t; inside = b }) ≡ []
  unfolding destination_from
  no_destination no' = rw (ne_eqb type.ValueEdge t (λ e. no' (inl (sym e))), ne_eqb type.PatternEdge t (λ e. no' (inr (sym e))))

-- those of ValueEdges and those of PatternEdges, mixed
mixing : (c : Cuts) → Mixed (map to (each_cut (inside_of type.ValueEdge) c)) (map to (each_cut (inside_of type.PatternEdge) c)) (each_cut destination_from c)
unfolding each_cut inside_of destination_from
mixing done = empty
mixing torn = empty
mixing (next e c) =
    go (eqb type.ValueEdge e.type) (eqb type.PatternEdge e.type) refl refl (each_cut (inside_of type.ValueEdge) c)
    (each_cut (inside_of type.PatternEdge) c)
    (mixing c)
  where
    x : List ℕ
    x = e.inside

    go : (a b : Bool) → eqb type.ValueEdge e.type ≡ a → eqb type.PatternEdge e.type ≡ b → (vs ps : List (List ℕ)) {ds : List ℕ}
        → Mixed (map to vs) (map to ps) ds → Mixed (map to (when a x ++ vs)) (map to (when b x ++ ps)) (when (a || b) (to x) ++ ds)
    go true true p q vs ps h = absurd (omega (arith, eqb-true type.ValueEdge e.type p, eqb-true type.PatternEdge e.type q))
    go true false p q vs ps h = left h
    go false true p q vs ps h = right h
    go false false p q vs ps h = h

by_kind : (b : List ℕ) → destinations (node_of b) ≡ map to (insides type.ValueEdge b) ++ map to (insides type.PatternEdge b)
unfolding destinations edges destination node_of value_edge_of pattern_edge_of
by_kind b =
    let values = map value_edge_of (insides type.ValueEdge b) in
    let patterns = map pattern_edge_of (insides type.PatternEdge b) in
    map-append destination (map Edge.value values) (map Edge.pattern patterns) ∙
    rw (
      map-map destination Edge.value values,
      map-map destination Edge.pattern patterns,
      map-map (λ e. destination (Edge.value e)) value_edge_of (insides type.ValueEdge b),
      map-map (λ e. destination (Edge.pattern e)) pattern_edge_of (insides type.PatternEdge b),
    )

in_file_order : (parents : List (Answer ℕ)) (i : ℕ) (b : List ℕ)
    → destinations_rule parents i (over destination_from b) ≡ destinations_rule parents i (destinations (node_of b))
unfolding destinations_rule insides
in_file_order parents i b =
    let m = mixing (cuts b) in
    rw (by_kind b, mixed_least (destination_rule parents i) m, mixed_twice m)

-- ---- one destination more

broken_either : (a b : Bool) → broken 14 (a || b) ≡ min (broken 14 a) (broken 14 b)
unfolding broken
broken_either true true = refl
broken_either true false = refl
broken_either false true = refl
broken_either false false = refl

twice_more : (ds : List ℕ) (d : ℕ) → twice (ds ++ (d ∷ [])) ≡ twice ds || member d ds
twice_more ds d = twice_among ds d [] ∙ rw (append-nil ds) (or_comm (member d ds) (twice ds))

member_more : (e : ℕ) (ds : List ℕ) (d : ℕ) → member e (ds ++ (d ∷ [])) ≡ member e ds || eqb e d
member_more e ds d = any_append (eqb e) ds (d ∷ []) ∙ rw (or-false (eqb e d))

module _ (parents : List (Answer ℕ)) (i : ℕ) where
  destinations_more : (ds : List ℕ) (d : ℕ)
      → destinations_rule parents i (ds ++ (d ∷ [])) ≡ min (destinations_rule parents i ds) (min (destination_rule parents i d) (broken 14 (member d ds)))
  unfolding destinations_rule
  destinations_more ds d =
      rw (least_more (destination_rule parents i) ds d, twice_more ds d, broken_either (twice ds) (member d ds)) (min_pairs _ _ _ _)

module _ (seen : List Bool) (d : ℕ) where
  pub not_kept : length seen ≡ max_nodes → max_nodes ≤ d → Noted seen d no_rule seen
  unfolding broken
  not_kept e l =
      let h : length seen ≤ d = omega arith in
      record { rule = sym (ap (broken 14) (get_or-eq_default seen false h)); kept = sym (set_out seen d true h) }

  pub seen_before : get_or seen d false ≡ true → Noted seen d 14 (set seen d true)
  unfolding broken
  seen_before e = record { rule = sym (ap (broken 14) e); kept = refl }

  pub not_before : get_or seen d false ≡ false → Noted seen d no_rule (set seen d true)
  unfolding broken
  not_before e = record { rule = sym (ap (broken 14) e); kept = refl }

-- ---- the loop over them

-- the edges before these lead to ds: `rule` is the lowest that these break, and `seen` has those that may name a Node
pub record Led (parents : List (Answer ℕ)) (i : ℕ) (s : List ℕ) (es : List Element) (rule : ℕ) (seen : List Bool) : Type 0 where
  pub ds : List ℕ
  pub before : ds ++ each destination_from es ≡ each destination_from (elements s)
  pub rule_is : rule ≡ destinations_rule parents i ds
  pub size : length seen ≡ max_nodes
  pub kept : (d : ℕ) → d < max_nodes → get_or seen d false ≡ member d ds

module _ {parents : List (Answer ℕ)} {i : ℕ} {s : List ℕ} where
  pub none_led : {seen : List Bool} → seen ≡ replicate max_nodes false → Led parents i s (elements s) no_rule seen
  unfolding destinations_rule least_of broken
  none_led e =
      record {
        ds = [];
        before = refl;
        rule_is = refl;
        size = ap length e ∙ length-replicate max_nodes false;
        kept = λ d l. ap (λ (x : List Bool). get_or x d false) e ∙ get_or-replicate max_nodes d false false l;
      }

  pub led_end : {rule : ℕ} {seen : List Bool} → Led parents i s [] rule seen → rule ≡ destinations_rule parents i (destinations (node_of s))
  led_end inv =
      inv.rule_is ∙ ap (destinations_rule parents i) (sym (append-nil inv.ds) ∙ inv.before ∙ sym (each_listed destination_from s)) ∙ in_file_order parents i s

  module _ {e : Element} {es : List Element} {rule : ℕ} {seen : List Bool} (inv : Led parents i s (e ∷ es) rule seen) where
    -- the rules of one more; one that names no Node is not kept in `seen`, and breaks rule 8, which is lower than 14
    one_rule : length parents ≤ max_nodes → (d : ℕ) → min (destination_rule parents i d) (broken 14 (get_or seen d false)) ≡
        min (destination_rule parents i d) (broken 14 (member d inv.ds))
    unfolding destination_rule broken
    one_rule few d = go (leb max_nodes d) refl
      where
        low : (b : Bool) → min 8 (cond b 14 no_rule) ≡ 8
        low true = refl
        low false = refl

        go : (b : Bool) → leb max_nodes d ≡ b → min (destination_rule parents i d) (broken 14 (get_or seen d false)) ≡
            min (destination_rule parents i d) (broken 14 (member d inv.ds))
        go true e =
            let l : max_nodes ≤ d = leb-true max_nodes d e in
            rw (le-leb (length parents) d (omega arith)) (low (get_or seen d false) ∙ sym (low (member d inv.ds)))
        go false e = rw (inv.kept d (leb-false max_nodes d e))

    one_kept : (d e : ℕ) → e < max_nodes → get_or (set seen d true) e false ≡ member e (inv.ds ++ (d ∷ []))
    one_kept d e l = go (eqb e d) refl
      where
        go : (b : Bool) → eqb e d ≡ b → get_or (set seen d true) e false ≡ member e (inv.ds ++ (d ∷ []))
        go true q =
            let same = eqb-true e d q in
            let long = inv.size in
            rw (member_more e inv.ds d, q, or-true (member e inv.ds), same) (get_or-set_same seen d true false (omega arith))
        go false q = rw (member_more e inv.ds d, q, or-false (member e inv.ds)) (get_or-set_other seen d e true false (eqb-false e d q) ∙ inv.kept e l)

    pub led_past : (IsEdge e.type → ⊥) → Led parents i s es rule seen
    led_past no' =
        record {
          ds = inv.ds;
          before = rw (no_destination {t = e.type} e.inside no') at inv.before;
          rule_is = inv.rule_is;
          size = inv.size;
          kept = inv.kept;
        }

    pub led_more : length parents ≤ max_nodes → IsEdge e.type → {d own again x rule' : ℕ} {seen' : List Bool} → d ≡ to e.inside
        → own ≡ destination_rule parents i d → Noted seen d again seen' → x ≡ min own again
        → rule' ≡ min rule x → Led parents i s es rule' seen'
    led_more few h {d} f o w x r =
        record {
          ds = inv.ds ++ (d ∷ []);
          before = append_assoc inv.ds (d ∷ []) _ ∙ rw f (rw (a_destination {t = e.type} e.inside h) at inv.before);
          rule_is = r ∙ rw (x, o, w.rule, inv.rule_is, one_rule few d) (sym (destinations_more parents i inv.ds d));
          size = ap length w.kept ∙ length-set seen d true ∙ inv.size;
          kept = λ e l. ap (λ (x : List Bool). get_or x e false) w.kept ∙ one_kept d e l;
        }
