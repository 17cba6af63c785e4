-- The sorts of elements of which a container may hold any number: the types of each, and what one comes to. Definitions only.
use Rattle.std.specs.Prelude.{ℕ, ◌≡◌, Bool, cond, ◌||◌, List, eqb, length}
use Rattle.tlv.specs.Element.{Element, cuts}
use Rattle.tlv.specs.Fields.{each_cut, number_of, integers, the_integer}
use Rattle.tlv.specs.Lists.{when, first}
use Rattle.lvs_spec.specs.Types as type
use Rattle.lvs_spec.specs.Leaves.{marked}
use Rattle.lvs_spec.specs.Model.{Term as ModelTerm, component_of, call_of, argument_of, option_of, constraint_of, value_edge_of, pattern_edge_of, node_of}
use Rattle.lvs_spec.specs.Model.{symbol_of}
use Rattle.lvs_description.specs.Format.{Lists, put, integer, text, maybe}
use Rattle.lvs_description.specs.Description.{argument, term, option, constraint, value_edge, pattern_edge, node, symbol}
use Rattle.lvs_describe.specs.Parts.{shown, row}
use Rattle.lvs_describe.specs.declared.rows.Counts.{Counts}
use Rattle.lvs_describe.specs.declared.rows.Sort.{Sort}
use Rattle.lvs_describe.specs.declared.rows.Sort.TheVariants.{Node, Symbol, Parent, RuleName, ValueEdge, PatternEdge, Signer, Constraint}
use Rattle.lvs_describe.specs.declared.rows.Sort.TheVariants.{ConstraintOption, Term, Argument}

-- a term is of one of three types
unfoldable pub is_term : ℕ → Bool
is_term t = eqb t type.Value || eqb t type.Tag || eqb t type.UserFnCall

unfoldable pub is_of : Sort → ℕ → Bool
is_of Node t = eqb t type.Node
is_of Symbol t = eqb t type.TagSymbol
is_of Parent t = eqb t type.Parent
is_of RuleName t = eqb t type.Identifier
is_of ValueEdge t = eqb t type.ValueEdge
is_of PatternEdge t = eqb t type.PatternEdge
is_of Signer t = eqb t type.SignConstraint
is_of Constraint t = eqb t type.Constraint
is_of ConstraintOption t = eqb t type.ConstraintOption
is_of Term t = is_term t
is_of Argument t = eqb t type.UserFnArg

-- the term that an element of type t with the inside b is
unfoldable pub term_of : ℕ → List ℕ → ModelTerm
term_of t b =
    cond (eqb t type.Value) (ModelTerm.value (component_of b)) (cond (eqb t type.Tag) (ModelTerm.tag (number_of b)) (ModelTerm.call (call_of b)))

-- what a Node says of itself: its id; 0, or 1 and its Parent
unfoldable pub own : List ℕ → Lists
own b = put (the_integer type.NodeId b) (shown (maybe (integer type.Parent)) (first (integers type.Parent b)))

-- what an element of type t with the inside b comes to
unfoldable pub item_of : Sort → ℕ → List ℕ → Lists
item_of Node t b = shown node (node_of b)
item_of Symbol t b = shown symbol (symbol_of b)
item_of Parent t b = shown (integer type.Parent) (number_of b)
item_of RuleName t b = shown (text type.Identifier (marked 35)) b
item_of ValueEdge t b = shown value_edge (value_edge_of b)
item_of PatternEdge t b = shown pattern_edge (pattern_edge_of b)
item_of Signer t b = shown (integer type.SignConstraint) (number_of b)
item_of Constraint t b = shown constraint (constraint_of b)
item_of ConstraintOption t b = shown option (option_of b)
item_of Term t b = shown term (term_of t b)
item_of Argument t b = shown argument (argument_of b)

unfoldable pub item_from : Sort → Element → List Lists
item_from k e = when (is_of k e.type) (item_of k e.type e.inside)

-- what the elements of one sort come to
unfoldable pub items_of : Sort → List ℕ → List Lists
items_of k b = each_cut (item_from k) (cuts b)

-- c is how many of each sort a Node with the inside b holds
pub record CountsOf (b : List ℕ) (c : Counts) : Type 0 where
  pub parents_are : c.parents ≡ length (items_of Parent b)
  pub names_are : c.names ≡ length (items_of RuleName b)
  pub values_are : c.values ≡ length (items_of ValueEdge b)
  pub patterns_are : c.patterns ≡ length (items_of PatternEdge b)
  pub signers_are : c.signers ≡ length (items_of Signer b)

unfoldable pub row_of : Sort → List ℕ → Lists
row_of k b = row (items_of k b)
