-- The bytes that the front of the two lists is written as: of a format, and of the parts that the code goes by. Definitions only.
use Rattle.std.specs.Prelude.{ℕ, zero, suc, true, List, [], ◌++◌}
use Rattle.std.proofs.Math.Option.{some}
use Rattle.tlv.specs.Lists.{bind}
use Rattle.tlv.specs.Element.{encode, element_bytes}
use Rattle.lvs_spec.specs.Types as type
use Rattle.lvs_description.specs.Format.{Lists, Taken, take_number, Format, integer, text, within}
use Rattle.lvs_description.specs.Description as description
use Rattle.lvs_write.specs.declared.parts.Container.{Container}
use Rattle.lvs_write.specs.declared.parts.Part.{Part}

-- bytes, and what is left of the lists
abbrev pub Bytes : Type 0
Bytes = Taken (List ℕ)

-- what a format reads, as bytes
unfoldable pub spelled : {A : Type 0} → Format A → Lists → Bytes
spelled f l = bind (f.from l) (λ r. some (encode (f.elements r.0), r.1))

-- a text, whatever it is asked to be
unfoldable pub text_from : ℕ → Lists → Bytes
text_from t l = spelled (text t (λ s. true)) l

-- one and then another
unfoldable pub after : Bytes → (Lists → Bytes) → Bytes
after o g = bind o (λ r. bind (g r.1) (λ s. some (r.0 ++ s.0, s.1)))

-- inside an element of type t
unfoldable pub wrapped : ℕ → Bytes → Bytes
wrapped t o = bind o (λ r. some (element_bytes (record { type = t; inside = r.0 }), r.1))

-- n of them
unfoldable pub run : (Lists → Bytes) → ℕ → Lists → Bytes
run f zero l = some ([], l)
run f (suc n) l = after (f l) (run f n)

-- a count, and so many
unfoldable pub counted : (Lists → Bytes) → Lists → Bytes
counted f l = bind (take_number l) (λ r. run f r.0 r.1)

-- ---- the parts of a description

abbrev pub type_of : Container → ℕ
type_of Container.Node = type.Node
type_of Container.Symbol = type.TagSymbol
type_of Container.PatternEdge = type.PatternEdge
type_of Container.Constraint = type.Constraint
type_of Container.ConstraintOption = type.ConstraintOption
type_of Container.Call = type.UserFnCall
type_of Container.Argument = type.UserFnArg

-- what stands inside a container
unfoldable pub inside_from : Container → Lists → Bytes
inside_from Container.Node = spelled description.node
inside_from Container.Symbol = spelled description.symbol
inside_from Container.PatternEdge = spelled description.pattern_edge
inside_from Container.Constraint = spelled description.constraint
inside_from Container.ConstraintOption = spelled description.option
inside_from Container.Call = spelled description.call
inside_from Container.Argument = spelled description.argument

unfoldable pub nested_from : Container → Lists → Bytes
nested_from c l = wrapped (type_of c) (inside_from c l)

unfoldable pub part_from : Part → Lists → Bytes
part_from Part.RuleName = text_from type.Identifier
part_from Part.Signer = spelled (integer type.SignConstraint)
part_from Part.Term = spelled description.term
part_from Part.ValueEdge = spelled (within type.ValueEdge description.value_edge)
part_from (Part.Nested c) = nested_from c
