-- A model's description as two lists, numbers and texts, in the layout of docs/format.md, 12, and the bytes that a model is written as: the
-- elements in the order of docs/format.md, 3, no optional ones, every integer in its shortest width. One format for each container.
-- Definitions only.
use Rattle.std.specs.Prelude.{ℕ, zero, suc, Bool, List, [], ◌∷◌}
use Rattle.std.proofs.Math.Option.{Option, none, some}
use Rattle.tlv.specs.Element.{Element, encode}
use Rattle.tlv.specs.Lists.{bind}
use Rattle.lvs_spec.specs.Types as type
use Rattle.lvs_spec.specs.Leaves.{identifier, marked}
use Rattle.lvs_spec.specs.WellFormed.{this_version}
use Rattle.lvs_spec.specs.Model.{Argument, Call, Term, ConstraintOption, Constraint, ValueEdge, PatternEdge, Node, Symbol, Model}
use Rattle.lvs_description.specs.Format.{Lists, Taken, take_number, put, Format, holds}
use Rattle.lvs_description.specs.Format.{integer, text, component, ◌then◌, under, many, maybe, within, behind}

-- ---- a UserFnArg: kind 0 and a Value, or kind 1 and a Tag

-- what follows the kind
abbrev pub argument_from : ℕ → Lists → Taken Argument
argument_from zero l = bind ((component type.Value).from l) (λ r. some (Argument.value r.0, r.1))
argument_from (suc zero) l = bind ((integer type.Tag).from l) (λ r. some (Argument.tag r.0, r.1))
argument_from (suc (suc n)) l = none

abbrev pub argument_onto : Argument → Lists → Lists
argument_onto (Argument.value e) l = put 0 ((component type.Value).onto e l)
argument_onto (Argument.tag t) l = put 1 ((integer type.Tag).onto t l)

abbrev pub argument_elements : Argument → List Element
argument_elements (Argument.value e) = (component type.Value).elements e
argument_elements (Argument.tag t) = (integer type.Tag).elements t

abbrev pub argument_formed : Argument → Bool
argument_formed (Argument.value e) = (component type.Value).formed e
argument_formed (Argument.tag t) = (integer type.Tag).formed t

abbrev pub argument : Format Argument
argument =
    record {
      from = λ l. bind (take_number l) (λ r. argument_from r.0 r.1);
      onto = argument_onto;
      elements = argument_elements;
      formed = argument_formed;
    }

-- ---- a UserFnCall: a FnId, with its `$` (36), and the arguments

abbrev pub call : Format Call
call =
    under (λ p. record { function = p.0; arguments = p.1 }) (λ c. (c.function, c.arguments))
    (text type.FnId (marked 36) then many (within type.UserFnArg argument))

-- ---- a term: kind 0 and a Value, kind 1 and a Tag, or kind 2 and a UserFnCall

-- what follows the kind
abbrev pub term_from : ℕ → Lists → Taken Term
term_from zero l = bind ((component type.Value).from l) (λ r. some (Term.value r.0, r.1))
term_from (suc zero) l = bind ((integer type.Tag).from l) (λ r. some (Term.tag r.0, r.1))
term_from (suc (suc zero)) l = bind (call.from l) (λ r. some (Term.call r.0, r.1))
term_from (suc (suc (suc n))) l = none

abbrev pub term_onto : Term → Lists → Lists
term_onto (Term.value e) l = put 0 ((component type.Value).onto e l)
term_onto (Term.tag t) l = put 1 ((integer type.Tag).onto t l)
term_onto (Term.call c) l = put 2 (call.onto c l)

abbrev pub term_elements : Term → List Element
term_elements (Term.value e) = (component type.Value).elements e
term_elements (Term.tag t) = (integer type.Tag).elements t
term_elements (Term.call c) = (within type.UserFnCall call).elements c

abbrev pub term_formed : Term → Bool
term_formed (Term.value e) = (component type.Value).formed e
term_formed (Term.tag t) = (integer type.Tag).formed t
term_formed (Term.call c) = call.formed c

abbrev pub term : Format Term
term =
    record {
      from = λ l. bind (take_number l) (λ r. term_from r.0 r.1);
      onto = term_onto;
      elements = term_elements;
      formed = term_formed;
    }

-- ---- the other containers

-- a ConstraintOption: its terms
abbrev pub option : Format ConstraintOption
option = many term

-- a Constraint: its options
abbrev pub constraint : Format Constraint
constraint = many (within type.ConstraintOption option)

-- the destination and the component
abbrev pub value_edge : Format ValueEdge
value_edge =
    under (λ p. record { destination = p.0; value = p.1 }) (λ e. (e.destination, e.value))
    (integer type.NodeId then component type.Value)

-- the destination, the Tag and the Constraints
abbrev pub pattern_edge : Format PatternEdge
pattern_edge =
    under (λ p. record { destination = p.0; tag = p.1.0; constraints = p.1.1 }) (λ e. (e.destination, (e.tag, e.constraints)))
    (integer type.NodeId then integer type.Tag then many (within type.Constraint constraint))

-- the id, the Parent if there is one, the rule names, with their `#` (35), the edges of both kinds and the signers
abbrev pub node : Format Node
node =
    under
    (λ p. record {
      id = p.0;
      parent = p.1.0;
      rule_names = p.1.1.0;
      value_edges = p.1.1.1.0;
      pattern_edges = p.1.1.1.1.0;
      signers = p.1.1.1.1.1;
    })
    (λ n. (n.id, (n.parent, (n.rule_names, (n.value_edges, (n.pattern_edges, n.signers))))))
    (integer type.NodeId then
    maybe (integer type.Parent) then
    many (text type.Identifier (marked 35)) then
    many (within type.ValueEdge value_edge) then
    many (within type.PatternEdge pattern_edge) then
    many (integer type.SignConstraint))

-- a TagSymbol: its Tag and its Identifier
abbrev pub symbol : Format Symbol
symbol =
    under (λ p. record { tag = p.0; identifier = p.1 }) (λ s. (s.tag, s.identifier))
    (integer type.Tag then text type.Identifier identifier)

-- the start, the pattern count, the Nodes and the symbols. The Version stands in the bytes alone
abbrev pub model : Format Model
model =
    under
    (λ p. record {
      start = p.0;
      pattern_count = p.1.0;
      nodes = p.1.1.0;
      symbols = p.1.1.1;
    })
    (λ m. (m.start, (m.pattern_count, (m.nodes, m.symbols))))
    (behind (holds type.Version this_version)
    (integer type.NodeId then integer type.NamedPatternCnt then many (within type.Node node) then many (within type.TagSymbol symbol)))

-- ---- the whole

-- the bytes that a model is written as
unfoldable pub model_bytes : Model → List ℕ
model_bytes m = encode (model.elements m)

-- both lists have to be used up
abbrev pub nothing_left : Model → List ℕ → List ℕ → Option Model
nothing_left m [] [] = some m
nothing_left m [] (y ∷ ys) = none
nothing_left m (x ∷ xs) [] = none
nothing_left m (x ∷ xs) (y ∷ ys) = none

-- the model that two lists describe, if they describe one. That they do not is refusal 30 of the writing call
unfoldable pub description_of : List ℕ → List ℕ → Option Model
description_of ns ts = bind (model.from (record { numbers = ns; texts = ts })) (λ r. nothing_left r.0 r.1.numbers r.1.texts)

-- the lists that describe a model
unfoldable pub lists_of : Model → Lists
lists_of m = model.onto m (record { numbers = []; texts = [] })

unfoldable pub numbers_of : Model → List ℕ
numbers_of m = (lists_of m).numbers

unfoldable pub texts_of : Model → List ℕ
texts_of m = (lists_of m).texts

-- every text and every component's type keeps its rule, so that the bytes are well formed
unfoldable pub formed : Model → Bool
formed m = model.formed m
