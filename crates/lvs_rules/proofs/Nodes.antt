-- The lowest rule that a Node breaks, as the code finds it element by element, is the lowest that the table's tests find in the Node's parts.
-- Assumes nothing.
use mathlib.Core.Path.{◌≡◌, refl, sym, ap, ◌∙◌}
use mathlib.Core.Bool.{Bool, true, false, cond, not}
use mathlib.Core.List.{List, map}
use mathlib.Core.Option.{some}
use Prim.Native.Nat.{ℕ, ◌≤◌, ◌<◌, min}
use native.Mathlib.Nat.{min_comm, min-eq_left}
use native.Mathlib.Omega.{arith}
use borrow.Author.Tests.{le-ltb}
use lib.Dec.{eqb}
use lib.ListN.{length, get_elem?, length-map}
use Rattle.std.specs.Prelude.{Option as Answer}
use Rattle.tlv.specs.Lists.{each, twice}
use Rattle.lvs_spec.specs.Limits.{max_nodes}
use Rattle.lvs_spec.specs.Model.{Model, Node, PatternEdge, Symbol, Constraint, ConstraintOption, Term, Call, Argument}
use Rattle.lvs_spec.specs.Verdict.{rules, destinations, options, terms, calls_in, calls, argument_tags, term_tags, node_tags, names_none}
use Rattle.lvs_spec.specs.Verdict.{start_has_parent, parallel_edges}
use Rattle.lvs_rules.specs.Lowest.{no_rule, broken, least_of, tag_rule, argument_rule, arguments_rule, call_rule, term_rule, terms_rule, option_rule}
use Rattle.lvs_rules.specs.Lowest.{constraint_rule}
use Rattle.lvs_rules.specs.Lowest.{parent_index, named_rule, own_rule, root_rule, destination_rule, destinations_rule, pattern_edge_rule}
use Rattle.lvs_rules.specs.Lowest.{node_rule, symbol_rule}
use Rattle.lvs_rules.proofs.Least.{min_assoc, min_swap, least_same, least_append, least_both, least_map, least_each}
use Rattle.lvs_rules.proofs.ParentTable.{root_is, destination_is}
use Rattle.lvs_rules.proofs.Rows.{Fits, fitting, first_row, row_most, fails_at, fails_outside, row_node, row_outside}

-- ---- the table

pub table_fits : (m : Model) → Fits 4 (rules m)
unfolding rules
table_fits m = fitting 4 (rules m) refl

-- a lemma for each kind of part: the code's test, and the rows of the table that ask something of it
module _ (m : Model) where
  node_row : (i : ℕ) (n : Node) → get_elem? m.nodes i ≡ some n
      → min (own_rule i n) (min (root_rule (map parent_index m.nodes) i m.start) (broken 14 (twice (destinations n)))) ≡
      first_row (λ a. a.node i n) (rules m)
  unfolding own_rule rules broken parallel_edges
  node_row i n h = rw (root_is m i n h) (go (not (eqb n.id i)) (start_has_parent m i n) (twice (destinations n)))
    where
      go : (a b c : Bool) → min (cond a 6 no_rule) (min (cond b 13 no_rule) (cond c 14 no_rule)) ≡ cond a 6 (cond b 13 (cond c 14 no_rule))
      go true true true = refl
      go true true false = refl
      go true false true = refl
      go true false false = refl
      go false true true = refl
      go false true false = refl
      go false false true = refl
      go false false false = refl

  tag_row : (t : ℕ) → tag_rule t ≡ first_row (λ a. a.tag t) (rules m)
  unfolding tag_rule rules broken
  tag_row t = refl

  option_row : (o : ConstraintOption) → terms_rule o ≡ first_row (λ a. a.option o) (rules m)
  unfolding terms_rule rules broken
  option_row o = refl

  call_row : (c : Call) → arguments_rule c ≡ first_row (λ a. a.call c) (rules m)
  unfolding arguments_rule rules broken
  call_row c = refl

  signer_row : (s : ℕ) → named_rule 9 (length (map parent_index m.nodes)) s ≡ first_row (λ a. a.signer s) (rules m)
  unfolding named_rule rules broken names_none
  signer_row s = rw (length-map m.nodes parent_index)

  destination_row : {i : ℕ} → i < max_nodes → (d : ℕ) → destination_rule (map parent_index m.nodes) i d ≡ first_row (λ a. a.destination i d) (rules m)
  unfolding rules broken
  destination_row small d = destination_is m small d

  start_row : length m.nodes ≤ max_nodes → named_rule 7 (length m.nodes) m.start ≡ first_row (λ a. a.whole) (rules m)
  unfolding named_rule rules broken names_none
  start_row few = rw (le-ltb max_nodes (length m.nodes) few)

  -- TagSymbols and StartId
  pub outside_rows : length m.nodes ≤ max_nodes
      → min (least_of symbol_rule m.symbols) (named_rule 7 (length m.nodes) m.start) ≡ first_row (fails_outside m) (rules m)
  unfolding symbol_rule
  outside_rows few =
      min_comm _ _ ∙
      rw (start_row few, least_same (λ (s : Symbol). tag_row s.tag) m.symbols) (sym (row_outside (table_fits m) m))

  -- ---- a term: its Tags and its call

  argument_tags_lem : (a : Argument) → least_of tag_rule (argument_tags a) ≡ argument_rule a
  unfolding least_of argument_tags argument_rule
  argument_tags_lem (Argument.value v) = refl
  argument_tags_lem (Argument.tag t) = min-eq_left (rw (tag_row t) (row_most (λ a. a.tag t) (table_fits m)))

  term_parts : (t : Term) → term_rule t ≡ min (least_of tag_rule (term_tags t)) (least_of arguments_rule (calls_in t))
  unfolding least_of term_rule term_tags calls_in call_rule
  term_parts (Term.value v) = refl
  term_parts (Term.tag t) =
      let h : tag_rule t ≤ no_rule = rw (tag_row t) (row_most (λ a. a.tag t) (table_fits m)) in
      omega arith
  term_parts (Term.call c) =
      let e : least_of tag_rule (each argument_tags c.arguments) ≡ least_of argument_rule c.arguments =
      least_each tag_rule argument_tags c.arguments ∙ least_same argument_tags_lem c.arguments in
      let h : arguments_rule c ≤ no_rule = rw (call_row c) (row_most (λ a. a.call c) (table_fits m)) in
      omega arith

-- ---- a Node: its options, its terms

module _ (m : Model) (n : Node) where
  options_least : (f : ConstraintOption → ℕ)
      → least_of f (options n) ≡ least_of (λ (e : PatternEdge). least_of (λ (c : Constraint). least_of f c) e.constraints) n.pattern_edges
  unfolding options
  options_least f =
      least_each f (λ (e : PatternEdge). each (λ (c : Constraint). c) e.constraints) n.pattern_edges ∙
      least_same (λ e. least_each f (λ (c : Constraint). c) e.constraints) n.pattern_edges

  terms_least : (f : Term → ℕ) → least_of f (terms n) ≡ least_of (λ (o : ConstraintOption). least_of f o) (options n)
  unfolding terms
  terms_least f = least_each f (λ (o : ConstraintOption). o) (options n)

  abbrev term_tag_rules : ℕ
  term_tag_rules = least_of tag_rule (each term_tags (terms n))

  abbrev option_rules : ℕ
  option_rules = least_of terms_rule (options n)

  abbrev call_rules : ℕ
  call_rules = least_of arguments_rule (calls n)

  terms_are : least_of term_rule (terms n) ≡ min term_tag_rules call_rules
  unfolding calls
  terms_are =
      least_same (term_parts m) (terms n) ∙
      least_both (λ t. least_of tag_rule (term_tags t)) (λ t. least_of arguments_rule (calls_in t)) (terms n) ∙
      rw (← least_each tag_rule term_tags (terms n), ← least_each arguments_rule calls_in (terms n))

  constraints_are : least_of (λ (e : PatternEdge). least_of constraint_rule e.constraints) n.pattern_edges ≡ min option_rules (min term_tag_rules call_rules)
  unfolding constraint_rule option_rule
  constraints_are =
      sym (options_least option_rule) ∙
      least_both terms_rule (λ (o : ConstraintOption). least_of term_rule o) (options n) ∙
      rw (← terms_least term_rule, terms_are)

  tags_are : least_of tag_rule (node_tags n) ≡ min (least_of (λ (e : PatternEdge). tag_rule e.tag) n.pattern_edges) term_tag_rules
  unfolding node_tags
  tags_are =
      least_append tag_rule (map (λ (e : PatternEdge). e.tag) n.pattern_edges) (each term_tags (terms n)) ∙
      rw (least_map tag_rule (λ (e : PatternEdge). e.tag) n.pattern_edges)

  patterns_are : least_of pattern_edge_rule n.pattern_edges ≡
      min (least_of (λ (e : PatternEdge). tag_rule e.tag) n.pattern_edges) (min option_rules (min term_tag_rules call_rules))
  unfolding pattern_edge_rule
  patterns_are =
      least_both (λ (e : PatternEdge). tag_rule e.tag) (λ (e : PatternEdge). least_of constraint_rule e.constraints) n.pattern_edges ∙
      ap (min _) constraints_are

  parts_are : (start : ℕ) (parents : List (Answer ℕ)) (i : ℕ)
      → node_rule start parents i n ≡
      min (min (own_rule i n) (min (root_rule parents i start) (broken 14 (twice (destinations n)))))
      (min (least_of tag_rule (node_tags n))
      (min (least_of (destination_rule parents i) (destinations n))
      (min (least_of (named_rule 9 (length parents)) n.signers) (min option_rules call_rules))))
  unfolding node_rule destinations_rule
  parts_are start parents i = rw (patterns_are, tags_are) (simp (min_assoc, min_comm, min_swap))

  pub node_rows : {i : ℕ} → i < max_nodes → get_elem? m.nodes i ≡ some n
      → node_rule m.start (map parent_index m.nodes) i n ≡ first_row (λ a. fails_at a i n) (rules m)
  node_rows {i} small there =
      parts_are m.start (map parent_index m.nodes) i ∙
      rw (
        node_row m i n there,
        least_same (tag_row m) (node_tags n),
        least_same (destination_row m small) (destinations n),
        least_same (signer_row m) n.signers,
        least_same (option_row m) (options n),
        least_same (call_row m) (calls n),
      )
      (sym (row_node (table_fits m) i n))
