-- A turn of the loop over a Node's edges. Assumes nothing.
use Prim.Native.Nat.{ℕ, suc, ◌+◌, ◌≤◌, ◌<◌}
use mathlib.Core.Path.{◌≡◌, refl, sym, ap, subst, ◌∙◌}
use mathlib.Core.List.{List, [], ◌∷◌}
use native.Mathlib.Omega.{arith}
use lib.ListN.{length, set}
use Rattle.tlv.specs.Lists.{bind, each, onward, or_else, numbered}
use Rattle.lvs_spec.specs.Limits.{max_model_bytes}
use Rattle.lvs_spec.specs.Model.{Edge, edges, node_at, model_of}
use Rattle.lvs_spec.specs.Walk.{Binding, Bindings, Match, Event, cross}
use Rattle.lvs_spec.specs.Demands.{OnlyNamed}
use Rattle.lvs_spec.proofs.Lists.{clash}
use Rattle.lvs_bindings.specs.Slots.{binding_at, bindings_of, cleared_slots}
use Rattle.lvs_bindings.proofs.Bound.{cleared_bindings}
use Rattle.lvs_edges.specs.Crossing.{reached, arriving, unbound}
use Rattle.lvs_edges.specs.Sides.{row_for}
use Rattle.lvs_edges.specs.declared.Crossing.{Crossing}
use Rattle.lvs_edges.proofs.Crossed.{LeadsBack, crossed_step}
use Rattle.lvs_edges.proofs.Rows.{Found}
use Rattle.lvs_walk.specs.Search.{Hit, hits, first_found, side_of, written, hit_of, First, mapped}
use Rattle.lvs_walk.specs.declared.goal.Goal.{Goal}
use Rattle.std.specs.declared.option.Option.{Option as Answer}
use Rattle.std.specs.declared.option.Option.TheVariants.{None, Some}
use Rattle.lvs_bindings.specs.declared.Span.{Span}
use Rattle.lvs_walk.specs.declared.goal.Pair.{Pair as Nodes}
use Rattle.lvs_walk.proofs.Retold.{retold_first}
use Rattle.lvs_walk.proofs.Ahead.{hit_after, hits_after}
use Rattle.lvs_walk.proofs.Hits.{found_append, looked_on, found_nothing, tried, hits_step}

-- what is looked for: the hits of the Node v with the component c and those after it; `depth` edges were crossed before
pub record Search : Type 0 where
  pub model : List ℕ
  pub named : ℕ
  pub packet : List ℕ
  pub key : List ℕ
  pub goal : Goal
  pub c : Binding
  pub cs : List Binding
  pub v : ℕ
  pub depth : ℕ
  pub slots : List (Answer Span)
  pub path : List ℕ

abbrev bindings : Search → List (Answer Span) → Bindings
bindings S slots = bindings_of S.packet S.key slots

-- where the walk stands
abbrev pub here : Search → Match
here S = record { node = S.v; bindings = bindings S S.slots; path = [] }

abbrev pub whole : Search → List (Event Hit)
whole S = hits (model_of S.model) S.key S.goal (S.c ∷ S.cs) (here S)

-- the walk from a match on with the components after c
abbrev pub onwards : Search → Match → List (Event Hit)
onwards S = hits (model_of S.model) S.key S.goal S.cs

-- the trace of these edges, where n stand before them
abbrev each_tried : Search → ℕ → List Edge → List (Event Hit)
each_tried S n es = each (tried (model_of S.model) S.key S.goal S.c S.cs (here S)) (numbered n es)

-- none of the n edges before these has a hit, and bindings and path are as they were; only named Tags are bound
pub record Turn (S : Search) (slots : List (Answer Span)) (path : List ℕ) (n : ℕ) (es : List Edge) : Type 0 where
  pub count : S.named ≡ (model_of S.model).pattern_count
  pub only_named : OnlyNamed S.named (bindings S S.slots)
  pub kept : bindings S slots ≡ bindings S S.slots
  pub path_kept : path ≡ S.path
  pub few : n + length es ≤ max_model_bytes
  pub so_far : first_found (whole S) ≡ first_found (each_tried S n es)

pub turn_first : (S : Search) {es : List Edge} → S.named ≡ (model_of S.model).pattern_count → OnlyNamed S.named (bindings S S.slots)
    → length es ≤ max_model_bytes → es ≡ edges (node_at (model_of S.model) S.v) → Turn S S.slots S.path 0 es
turn_first S count only_named short e =
    record {
      count = count;
      only_named = only_named;
      kept = refl;
      path_kept = refl;
      few = omega arith;
      so_far = ap first_found (hits_step (model_of S.model) S.key S.goal S.c S.cs (here S) ∙ ap (each_tried S 0) (sym e));
    }

-- only named Tags are bound at each turn
pub turn_named : {S : Search} {slots : List (Answer Span)} {path : List ℕ} {n : ℕ} {es : List Edge} → Turn S slots path n es
    → OnlyNamed S.named (bindings S slots)
turn_named {S} t = subst (OnlyNamed S.named) (sym t.kept) t.only_named

-- what the walk promises
abbrev Ends : Search → Answer Nodes → List (Answer Span) → List ℕ → Type 0
Ends S = First S.packet S.key (whole S) S.depth S.slots S.path

module _ {S : Search} {slots : List (Answer Span)} {path : List ℕ} {n : ℕ} {es : List Edge} (t : Turn S slots path n es) where
  -- all edges are done
  pub turn_none : es ≡ [] → Ends S None slots path
  unfolding written
  turn_none e =
      record {
        crossed = [];
        answer = sym (t.so_far ∙ rw e found_nothing);
        path_is = t.path_kept;
        kept = λ z. t.kept;
        path_kept = λ z. t.path_kept;
      }

  -- the next edge, and those after it
  module _ {e : Edge} {next : List Edge} (edge : es ≡ e ∷ next) where
    -- its ordinal fits a word of the path
    pub ordinal_low : n < max_model_bytes
    ordinal_low = omega (arith, t.few, ap length edge)

    -- its crossing r, with the slots after it
    module _ {r : Answer Crossing} {after : List (Answer Span)} (crossed : LeadsBack S.named S.packet S.key e S.c slots r after) where
      leads : cross (model_of S.model) S.c (here S) n e ≡ bind (reached r (bindings S after)) (arriving (n ∷ []))
      leads = crossed_step (model_of S.model) (here S) n t.count t.kept crossed

      abbrev rest : List (Event Hit)
      rest = each_tried S (suc n) next

      step : first_found (whole S) ≡ or_else (first_found (onward (onwards S) (bind (reached r (bindings S after)) (arriving (n ∷ []))))) (first_found rest)
      unfolding tried
      step =
          t.so_far ∙
          ap (λ es. first_found (each_tried S n es)) edge ∙
          found_append (tried (model_of S.model) S.key S.goal S.c S.cs (here S) (n, e)) rest ∙
          ap (λ o. or_else o (first_found rest)) (looked_on (onward (onwards S) (cross (model_of S.model) S.c (here S) n e))) ∙
          ap (λ o. or_else (first_found (onward (onwards S) o)) (first_found rest)) leads

      -- the next turn
      onward_turn : {now : List (Answer Span)} {path-now : List ℕ} → bindings S now ≡ bindings S slots → path-now ≡ path
          → first_found (whole S) ≡ first_found rest → Turn S now path-now (n + 1) next
      onward_turn same same-path so_far =
          let one : n + 1 ≡ suc n = omega arith in
          record {
            count = t.count;
            only_named = t.only_named;
            kept = same ∙ t.kept;
            path_kept = same-path ∙ t.path_kept;
            few = omega (arith, t.few, ap length edge);
            so_far = rw one so_far;
          }

      -- the edge is shut
      pub turn_shut : r ≡ None → Turn S after path (n + 1) next
      unfolding first_found
      turn_shut z = onward_turn (rw z at crossed.back) refl (rw z at step)

      -- it leads on, and the walk from there has this answer
      module _ {x : Crossing} {q : Answer Nodes} {last : List (Answer Span)} {path-last : List ℕ} (opened : r ≡ Some x)
          (walked : First S.packet S.key (onwards S (record { node = x.node; bindings = bindings S after; path = [] })) (S.depth + 1) after path q last
          path-last) where
        abbrev there : Match
        there = record { node = x.node; bindings = bindings S after; path = [] }

        found_there : first_found (whole S) ≡ or_else (mapped (hit_after (n ∷ [])) (hit_of S.packet S.key q last walked.crossed)) (first_found rest)
        found_there =
            (rw opened at step) ∙
            ap (λ o. or_else o (first_found rest)) (
            ap first_found (hits_after (model_of S.model) (n ∷ []) S.key S.goal S.cs there) ∙
            retold_first (hit_after (n ∷ [])) (onwards S there) ∙ ap (mapped (hit_after (n ∷ []))) (sym walked.answer)
            )

        -- nothing is found: what the edge bound is unbound
        pub turn_back : q ≡ None → {now : List (Answer Span)} → bindings S now ≡ unbound x.bound (bindings S last) → Turn S now path-last (n + 1) next
        turn_back z {now} e =
            onward_turn (e ∙ ap (unbound x.bound) (walked.kept z) ∙ (rw opened at crossed.back)) (walked.path_kept z) (rw z at found_there)

        pub turn_unbound : q ≡ None → {tag : ℕ} → x.bound ≡ Some tag → {now : List (Answer Span)} → now ≡ cleared_slots tag last
            → Turn S now path-last (n + 1) next
        turn_unbound z {tag} b {now} e =
            turn_back z (ap (bindings S) e ∙ cleared_bindings S.packet S.key last tag ∙ ap (λ o. unbound o (bindings S last)) (sym b))

        pub turn_kept : q ≡ None → x.bound ≡ None → Turn S last path-last (n + 1) next
        turn_kept z b = turn_back z (ap (λ o. unbound o (bindings S last)) (sym b))

        -- a hit is found: it is the Node's
        pub turn_found : {y : Nodes} → q ≡ Some y → {path-now : List ℕ} → path-now ≡ set path-last S.depth n → Ends S q last path-now
        unfolding written
        turn_found z path-now-is =
            record {
              crossed = n ∷ walked.crossed;
              answer = rw z (sym (rw z at found_there));
              path_is = path-now-is ∙ ap (λ w. set w S.depth n) (walked.path_is ∙ ap (written (S.depth + 1) walked.crossed) t.path_kept);
              kept = λ y. clash (cc);
              path_kept = λ y. clash (cc);
            }

-- ---- a walk from a component on

abbrev pub search_at : List ℕ → ℕ → List ℕ → List ℕ → Goal → ℕ → ℕ → ℕ → ℕ → List ℕ → List (Answer Span) → List ℕ → Search
search_at model named packet key goal v stop depth text c slots path =
    record {
      model = model;
      named = named;
      packet = packet;
      key = key;
      goal = goal;
      c = binding_at packet key text (length c);
      cs = row_for packet key (side_of goal) stop;
      v = v;
      depth = depth;
      slots = slots;
      path = path;
    }

-- what is found for the component and those after it is what the walk looks for
pub begun : (model : List ℕ) (named v depth : ℕ) (slots : List (Answer Span)) (path : List ℕ) {packet key : List ℕ} (goal : Goal) {at text : ℕ} {c : List ℕ}
    → Found packet key (side_of goal) at text c → {r : Answer Nodes} {slots-after : List (Answer Span)} {path-after : List ℕ}
    → First packet key (whole (search_at model named packet key goal v (at + length c) depth text c slots path)) depth slots path r slots-after path-after
    → First packet key
    (hits (model_of model) key goal (row_for packet key (side_of goal) at) (record { node = v; bindings = bindings_of packet key slots; path = [] }))
    depth slots path r slots-after path-after
begun model named v depth slots path goal C g = rw C.row_is g
