-- Following a path through a name, one word and one component at a step. Assumes nothing.
use Prim.Native.Nat.{ℕ, zero, suc, ◌+◌, ◌≤◌, ◌<◌}
use mathlib.Core.Path.{◌≡◌, refl, sym, ap, subst, ◌∙◌}
use mathlib.Core.List.{List, [], ◌∷◌, ◌++◌}
use mathlib.Core.Option as math
use native.Mathlib.Omega.{arith}
use lib.ListN.{length, take, drop, get_or, get_elem?}
use lib.Seq.{take_all, take-suc, drop-cons}
use Rattle.std.proofs.lemmas.List.{drop_all}
use Rattle.std.specs.Prelude.{slice_get, option_map, MatchOption}
use Rattle.std.specs.Iterator.{YieldsFirstBy, YieldsThen}
use Rattle.std.proofs.lemmas.Iterator.Consumers.{nth_from_yields_List, YieldsList-from_first}
use Rattle.std.specs.declared.option.Option.{Option as Answer}
use Rattle.std.specs.declared.option.Option.TheVariants.{None, Some}
use Rattle.tlv.specs.Lists.{bind}
use Rattle.lvs_spec.specs.Model.{Model, Edge, edges, node_at}
use Rattle.lvs_spec.specs.Walk.{Binding, Match, begin, cross, follow}
use Rattle.lvs_spec.specs.Demands.{OnlyNamed}
use Rattle.lvs_spec.specs.declared.refusal.Side.{Side}
use Rattle.lvs_bindings.specs.Slots.{binding_at, bindings_of}
use Rattle.lvs_bindings.specs.declared.Span.{Span}
use Rattle.lvs_edges.specs.Crossing.{reached, arriving}
use Rattle.lvs_edges.specs.Left.{edge_is, edges_left}
use Rattle.lvs_edges.specs.Sides.{row_for}
use Rattle.lvs_edges.specs.declared.Crossing.{Crossing}
use Rattle.lvs_edges.specs.declared.Edge.{Edge as AnEdge}
use Rattle.lvs_edges.specs.declared.Edges.{Edges}
use Rattle.lvs_edges.proofs.Crossed.{LeadsBack, crossed_named, crossed_step}
use Rattle.lvs_edges.proofs.Rows.{Found}
use Rattle.lvs_follow.specs.Following.{Stepped, Led}

-- ---- the edge that a word names

-- an answer as the definitions have it
abbrev known : {A : Type 0} → Answer A → math.Option A
known None = math.none
known (Some a) = math.some a

elem_is : {A : Type 0} (xs : List A) (n : ℕ) → get_elem? xs n ≡ known (slice_get xs n)
elem_is [] zero = refl
elem_is [] (suc n) = refl
elem_is (x ∷ xs) zero = refl
elem_is (x ∷ xs) (suc n) = elem_is xs n

module _ (n : ℕ) (o : Answer AnEdge) (t : Edges) {s : Edges} {es : List Edge} (left : edges_left s ≡ es)
    (ran : (xs : List AnEdge) × YieldsThen (YieldsFirstBy edge_is edges_left) s xs o t × MatchOption o (length xs ≤ n) (λ _. length xs ≡ n)) where
  at_n : get_elem? es n ≡ known (option_map edge_is o)
  at_n = elem_is es n ∙ ap known (sym (nth_from_yields_List o t n ran (YieldsList-from_first edge_is edges_left es left)))

  pub nth_none : o ≡ None → get_elem? es n ≡ math.none
  nth_none e = at_n ∙ ap (λ r. known (option_map edge_is r)) e

  pub nth_some : {e : AnEdge} → o ≡ Some e → get_elem? es n ≡ math.some (edge_is e)
  nth_some e = at_n ∙ ap (λ r. known (option_map edge_is r)) e

-- ---- one step

module _ (m : Model) (packet key : List ℕ) (v n : ℕ) (b : Binding) (before : List (Answer Span)) where
  there : (x : Match) {o : math.Option Edge} → x.node ≡ v → get_elem? (edges (node_at m v)) n ≡ o → get_elem? (edges (node_at m x.node)) n ≡ o
  there x at e = ap (λ u. get_elem? (edges (node_at m u)) n) at ∙ e

  -- there is no such edge
  pub step_none : OnlyNamed m.pattern_count (bindings_of packet key before) → get_elem? (edges (node_at m v)) n ≡ math.none
      → Stepped m packet key v n b before None before
  step_none named e = record { leads = λ x at _. ap (λ o. bind o (cross m b x n)) (there x at e); only_named = named }

  -- there is
  pub step_crossed : {count : ℕ} {e : Edge} {r : Answer Crossing} {after : List (Answer Span)} → count ≡ m.pattern_count
      → OnlyNamed count (bindings_of packet key before) → get_elem? (edges (node_at m v)) n ≡ math.some e
      → LeadsBack count packet key e b before r after → Stepped m packet key v n b before r after
  step_crossed {r = r} {after = after} count-is named e crossed =
      record {
        leads = λ x at bound. ap (λ o. bind o (cross m b x n)) (there x at e) ∙ crossed_step m x n count-is (sym bound) crossed;
        only_named = subst (λ k. OnlyNamed k (bindings_of packet key after)) count-is (crossed_named r named crossed);
      }

-- ---- a name

-- what is followed: a path through the components of a name from a place on, with these slots
pub record Path : Type 0 where
  pub m : Model
  pub packet : List ℕ
  pub key : List ℕ
  pub side : Side
  pub from : ℕ
  pub words : List ℕ
  pub slots : List (Answer Span)

abbrev whole : Path → math.Option Match
whole P = follow P.m (row_for P.packet P.key P.side P.from) P.words (begin P.m (bindings_of P.packet P.key P.slots))

-- what is promised
abbrev Ends : Path → Answer ℕ → List (Answer Span) → Type 0
Ends P = Led P.m P.packet P.key P.side P.from P.words P.slots

-- where the first i words led
abbrev here : Path → ℕ → ℕ → List (Answer Span) → Match
here P v i slots = record { node = v; bindings = bindings_of P.packet P.key slots; path = take i P.words }

-- the first i words led to the node v, with the components before `at`
pub record Come (P : Path) (v at i : ℕ) (slots : List (Answer Span)) : Type 0 where
  pub is : whole P ≡ follow P.m (row_for P.packet P.key P.side at) (drop i P.words) (here P v i slots)
  pub counted : i ≤ length P.words
  pub only_named : OnlyNamed P.m.pattern_count (bindings_of P.packet P.key slots)

pub come_first : (P : Path) {v : ℕ} → v ≡ P.m.start → OnlyNamed P.m.pattern_count (bindings_of P.packet P.key P.slots) → Come P v P.from 0 P.slots
unfolding begin
come_first P e named = record { is = rw e; counted = omega arith; only_named = named }

module _ {P : Path} {v at i : ℕ} {slots : List (Answer Span)} (c : Come P v at i slots) where
  nowhere : whole P ≡ math.none → Ends P None slots
  nowhere e = record { is = e; only_named = c.only_named }

  -- no word is left
  module _ (all : length P.words ≤ i) where
    pub come_end : row_for P.packet P.key P.side at ≡ [] → Ends P (Some v) slots
    unfolding follow
    come_end ended =
        record {
          is = c.is ∙ rw (ended, drop_all i P.words all)
              (ap (λ p. math.some (record { node = v; bindings = bindings_of P.packet P.key slots; path = p })) (take_all i P.words all));
          only_named = c.only_named;
        }

    -- but a component
    pub come_short : {text : ℕ} {b : List ℕ} → Found P.packet P.key P.side at text b → Ends P None slots
    unfolding follow
    come_short C = nowhere (c.is ∙ rw (C.row_is, drop_all i P.words all))

  -- a word is left
  module _ (more : i < length P.words) where
    -- but no component
    pub come_more : row_for P.packet P.key P.side at ≡ [] → Ends P None slots
    unfolding follow
    come_more ended = nowhere (c.is ∙ rw (ended, drop-cons P.words i 0 more))

    -- and a component
    module _ {text : ℕ} {b : List ℕ} (C : Found P.packet P.key P.side at text b) {r : Answer Crossing} {after : List (Answer Span)}
        (s : Stepped P.m P.packet P.key v (get_or P.words i 0) (binding_at P.packet P.key text (length b)) slots r after) where
      abbrev word : ℕ
      word = get_or P.words i 0

      abbrev stop : ℕ
      stop = at + length b

      stepped : whole P ≡ bind (bind (reached r (bindings_of P.packet P.key after)) (arriving (take i P.words ++ (word ∷ []))))
          (follow P.m (row_for P.packet P.key P.side stop) (drop (suc i) P.words))
      unfolding follow
      stepped =
          c.is ∙ rw (C.row_is, drop-cons P.words i 0 more)
          (ap (λ o. bind o (follow P.m (row_for P.packet P.key P.side stop) (drop (suc i) P.words))) (s.leads (here P v i slots) refl refl))

      pub come_shut : r ≡ None → Ends P None after
      come_shut e = record { is = rw e at stepped; only_named = s.only_named }

      pub come_on : {x : Crossing} → r ≡ Some x → Come P x.node stop (i + 1) after
      come_on e =
          let one : i + 1 ≡ suc i = omega arith in
          record {
            is = rw (one, take-suc P.words i 0 more) (rw e at stepped);
            counted = omega arith;
            only_named = s.only_named;
          }
