-- The code's kinds, leaves and meanings as those of lvs_spec. Definitions only.
use Rattle.std.specs.Prelude.{Bool, true, false}
use Rattle.lvs_spec.specs.Grammar as grammar
use Rattle.lvs_grammar.specs.declared.types.Kind.{Kind}
use Rattle.lvs_grammar.specs.declared.types.Kind.TheVariants.{Model, Node, ValueEdge, PatternEdge, Constraint, ConstraintOption, UserFnCall}
use Rattle.lvs_grammar.specs.declared.types.Kind.TheVariants.{UserFnArg, TagSymbol}
use Rattle.lvs_grammar.specs.declared.types.Leaf.{Leaf}
use Rattle.lvs_grammar.specs.declared.types.Leaf.TheVariants.{Version, Integer, Value, Text, FunctionId}
use Rattle.lvs_grammar.specs.declared.types.Known.{Known}
use Rattle.lvs_grammar.specs.declared.types.Known.TheVariants.{Plain, Container}
use Rattle.lvs_grammar.specs.declared.types.Meaning as meanings
use Rattle.lvs_grammar.specs.declared.types.Meaning.TheVariants as means

abbrev pub kind_of : Kind → grammar.Kind
kind_of Model = grammar.model
kind_of Node = grammar.node
kind_of ValueEdge = grammar.value_edge
kind_of PatternEdge = grammar.pattern_edge
kind_of Constraint = grammar.constraint
kind_of ConstraintOption = grammar.constraintOption
kind_of UserFnCall = grammar.userFnCall
kind_of UserFnArg = grammar.userFnArg
kind_of TagSymbol = grammar.tagSymbol

abbrev pub leaf_of : Leaf → grammar.Leaf
leaf_of Version = grammar.version
leaf_of Integer = grammar.integer
leaf_of Value = grammar.value
leaf_of Text = grammar.text
leaf_of FunctionId = grammar.functionId

abbrev pub known_of : Known → grammar.Known
known_of (Plain l) = grammar.leaf (leaf_of l)
known_of (Container k) = grammar.container (kind_of k)

abbrev pub meaning_of : meanings.Meaning → grammar.Meaning
meaning_of means.Optional = grammar.optional
meaning_of means.Critical = grammar.critical
meaning_of (means.Known w) = grammar.known (known_of w)

abbrev pub is_optional : grammar.Meaning → Bool
is_optional grammar.optional = true
is_optional grammar.critical = false
is_optional (grammar.known w) = false
