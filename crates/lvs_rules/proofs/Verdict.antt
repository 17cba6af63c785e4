-- The verdict by the table of rules, from one pass over the Nodes. Assumes nothing.
use mathlib.Core.Path.{◌≡◌}
use mathlib.Core.List.{map}
use Prim.Native.Nat.{ℕ, ◌≤◌, ◌<◌, min}
use native.Mathlib.Omega.{arith}
use borrow.Author.Tests.{lt-ltb, le-ltb, eq-eqb, ne_eqb}
use lib.ListN.{length}
use Rattle.lvs_spec.specs.Limits.{max_nodes}
use Rattle.lvs_spec.specs.Model.{Model}
use Rattle.lvs_spec.proofs.Lists.{get_elem_lt}
use Rattle.lvs_spec.specs.Verdict.{accepted, refused, rules, fault, decide, judge}
use Rattle.lvs_rules.specs.Lowest.{no_rule, least_of, named_rule, symbol_rule, node_rule, parent_index}
use Rattle.lvs_rules.specs.Faults.{Fault, lowest, named, verdict_of}
use Rattle.lvs_rules.proofs.Nodes.{table_fits, node_rows, outside_rows}
use Rattle.lvs_rules.proofs.Pass.{decided_by}

pub judge_few : (m : Model) → length m.nodes ≤ max_nodes
    → judge m ≡
    verdict_of (lowest (node_rule m.start (map parent_index m.nodes)) m.nodes)
    (min (least_of symbol_rule m.symbols) (named_rule 7 (length m.nodes) m.start))
    (length m.nodes)
unfolding judge
judge_few m few =
    decided_by m (table_fits m) (node_rule m.start (map parent_index m.nodes)) _
    (λ i n there. node_rows m n (omega (arith, get_elem_lt m.nodes i there)) there)
    (outside_rows m few)

pub judge_many : (m : Model) → max_nodes < length m.nodes → judge m ≡ refused 4 0
unfolding judge rules decide fault
judge_many m many = rw (lt-ltb max_nodes (length m.nodes) many)

-- ---- which rule decides

module _ (found : Fault) (whole count : ℕ) where
  pub whole_decides : whole < found.rule → refused whole 0 ≡ verdict_of found whole count
  unfolding verdict_of
  whole_decides l = rw (lt-ltb whole found.rule l)

  module _ (l : found.rule ≤ whole) where
    pub none_broken : found.rule ≡ no_rule → accepted count ≡ verdict_of found whole count
    unfolding verdict_of
    none_broken e = rw (le-ltb whole found.rule l, eq-eqb found.rule no_rule e)

    module _ (some-rule : found.rule ≡ no_rule → ⊥) where
      pub tag_decides : found.rule ≡ 5 → refused found.rule 0 ≡ verdict_of found whole count
      unfolding verdict_of named
      tag_decides e = rw (le-ltb whole found.rule l, ne_eqb found.rule no_rule some-rule, eq-eqb found.rule 5 e)

      pub node_decides : (found.rule ≡ 5 → ⊥) → refused found.rule found.node ≡ verdict_of found whole count
      unfolding verdict_of named
      node_decides no' = rw (le-ltb whole found.rule l, ne_eqb found.rule no_rule some-rule, ne_eqb found.rule 5 no')
