-- The lowest rule that a part of a Model breaks, for each part; no_rule where it breaks none. Definitions only.
use Rattle.std.specs.Prelude.{ℕ, min, Bool, true, false, cond, ◌&&◌, not, ◌≡◌, List, [], ◌∷◌, leb, eqb, length, get_or, set, is_some}
use Rattle.std.specs.Prelude.{Option as Answer, Some, None}
use Rattle.std.proofs.Math.Option.{Option, none, some}
use Rattle.tlv.specs.Lists.{twice}
use Rattle.lvs_spec.specs.Model.{Argument, Call, Term, ConstraintOption, Constraint, PatternEdge, Node, Symbol}
use Rattle.lvs_spec.specs.Verdict.{bad_tag, bad_call, destinations}

-- above every rule's number, which is checked with the table (`table_fits`)
abbrev pub no_rule : ℕ
no_rule = 4294967295

-- rule r, where a test says that it is broken
unfoldable pub broken : ℕ → Bool → ℕ
broken r t = cond t r no_rule

-- the lowest of a list
unfoldable pub least_of : {A : Type 0} → (A → ℕ) → List A → ℕ
least_of f [] = no_rule
least_of f (x ∷ xs) = min (f x) (least_of f xs)

unfoldable pub tag_rule : ℕ → ℕ
tag_rule t = broken 5 (bad_tag t)

unfoldable pub argument_rule : Argument → ℕ
argument_rule (Argument.value v) = no_rule
argument_rule (Argument.tag t) = tag_rule t

-- of a call itself: its function and its number of arguments
unfoldable pub arguments_rule : Call → ℕ
arguments_rule c = broken 12 (bad_call c)

unfoldable pub call_rule : Call → ℕ
call_rule c = min (arguments_rule c) (least_of argument_rule c.arguments)

unfoldable pub term_rule : Term → ℕ
term_rule (Term.value v) = no_rule
term_rule (Term.tag t) = tag_rule t
term_rule (Term.call c) = call_rule c

-- of an option itself: its number of terms
unfoldable pub terms_rule : ConstraintOption → ℕ
terms_rule o = broken 10 (not (eqb (length o) 1))

unfoldable pub option_rule : ConstraintOption → ℕ
option_rule o = min (terms_rule o) (least_of term_rule o)

unfoldable pub constraint_rule : Constraint → ℕ
constraint_rule c = least_of option_rule c

-- the index that a Node names as its Parent, as the code holds it: one that no Node has may be another such
abbrev pub parent_from : Option ℕ → Answer ℕ
parent_from none = None
parent_from (some p) = Some (min p 4294967295)

unfoldable pub parent_index : Node → Answer ℕ
parent_index n = parent_from n.parent

-- of an index that has to name one of n Nodes: rule 7 of StartId, 9 of a signer
unfoldable pub named_rule : ℕ → ℕ → ℕ → ℕ
named_rule r n index = broken r (leb n index)

-- of a Node's NodeId; i is its index
unfoldable pub own_rule : ℕ → Node → ℕ
own_rule i n = broken 6 (not (eqb n.id i))

unfoldable pub pattern_edge_rule : PatternEdge → ℕ
pattern_edge_rule e = min (tag_rule e.tag) (least_of constraint_rule e.constraints)

-- it is this one
abbrev pub is_index : ℕ → Answer ℕ → Bool
is_index i None = false
is_index i (Some p) = eqb i p

-- `parents` has each Node's Parent, so its length is the number of Nodes; i is the index of the Node at hand
module _ (parents : List (Answer ℕ)) (i : ℕ) where
  -- of its own Parent
  unfoldable pub root_rule : ℕ → ℕ
  root_rule start = broken 13 (eqb i start && is_some (get_or parents i None))

  -- of its edges' destinations
  unfoldable pub destination_rule : ℕ → ℕ
  destination_rule d = cond (leb (length parents) d) 8 (broken 11 (not (is_index i (get_or parents d None))))

  unfoldable pub destinations_rule : List ℕ → ℕ
  destinations_rule ds = min (least_of destination_rule ds) (broken 14 (twice ds))

-- `seen` says which numbers are among the destinations before d: the answer to d, and what is seen after it. A number that `seen` has no room
-- for, and so no Node has as its index, is not kept.
pub record Noted (seen : List Bool) (d r : ℕ) (after : List Bool) : Type 0 where
  pub rule : r ≡ broken 14 (get_or seen d false)
  pub kept : after ≡ set seen d true

unfoldable pub node_rule : ℕ → List (Answer ℕ) → ℕ → Node → ℕ
node_rule start parents i n =
    min (min (own_rule i n) (root_rule parents i start))
    (min (destinations_rule parents i (destinations n))
    (min (least_of pattern_edge_rule n.pattern_edges) (least_of (named_rule 9 (length parents)) n.signers)))

unfoldable pub symbol_rule : Symbol → ℕ
symbol_rule s = tag_rule s.tag
