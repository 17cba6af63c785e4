-- `lvs_grammar::leaves::is_text` meets its contract: only a Node holds RuleNames. Assumes nothing.
use Rattle.std.proofs.Common.{◌≡◌, ◌∙◌, ℕ, List, refl}
use Rattle.lvs_spec.specs.Leaves.{identifier, text_in}
use Rattle.lvs_grammar.specs.declared.types.Kind.{Kind}
use Rattle.lvs_grammar.specs.declared.types.Kind.TheVariants.{Model, Node, ValueEdge, PatternEdge, Constraint, ConstraintOption, UserFnCall}
use Rattle.lvs_grammar.specs.declared.types.Kind.TheVariants.{UserFnArg, TagSymbol}
use Rattle.lvs_grammar.specs.Types.{kind_of}
use Rattle.lvs_grammar.proofs.leaves.is_text.Goals as goal

elsewhere : (k : Kind) (b : List ℕ) → (k ≡ Node → ⊥) → identifier b ≡ text_in (kind_of k) b
unfolding text_in
elsewhere Node b h = absurd (h refl)
elsewhere Model b h = refl
elsewhere ValueEdge b h = refl
elsewhere PatternEdge b h = refl
elsewhere Constraint b h = refl
elsewhere ConstraintOption b h = refl
elsewhere UserFnCall b h = refl
elsewhere UserFnArg b h = refl
elsewhere TagSymbol b h = refl

pub returns-in_default : goal.returns-in_default
returns-in_default c = c.is_identifier.ensures ∙ elsewhere c.args.kind _ c.in_default.not-Node
