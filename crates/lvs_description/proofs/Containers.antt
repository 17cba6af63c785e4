-- The laws of each container of a model, made of those of its parts in the order of docs/format.md, 3. The number is how deep its bytes are
-- nested at most: 7 for the model, as lvs_spec's `depth`. Assumes nothing.
use mathlib.Core.Path.{◌≡◌, refl, sym, ap, ◌∙◌}
use mathlib.Core.Bool.{Bool, true}
use mathlib.Core.List.{List, [], ◌∷◌, map-id}
use mathlib.Core.Option.{some}
use Prim.Native.Nat.{ℕ}
use native.Mathlib.Nat.{le_refl}
use native.Mathlib.Omega.{arith}
use borrow.Author.Tests.{eqb-true}
use lib.ListN.{length}
use Rattle.tlv.specs.Element.{Element, element_bytes, encode}
use Rattle.tlv.specs.Fields.{insides, number_of, integers, the_inside, the_integer}
use Rattle.lvs_spec.specs.Types as type
use Rattle.lvs_spec.specs.Grammar as grammar
use Rattle.lvs_spec.specs.Grammar.{Kind, Leaf, Item, meaning, lookup, known_types, order, step, the, once, leaf, known}
use Rattle.lvs_spec.specs.Leaves.{identifier, marked, leaf_in, text_in}
use Rattle.lvs_spec.specs.WellFormed.{inside_ok, well_formed_by, this_version}
use Rattle.lvs_spec.specs.Model.{Argument, Term}
use Rattle.lvs_spec.specs.Model.{component_of, argument_from, argument_of, call_of, term_from, option_of, constraint_of, value_edge_of, pattern_edge_of}
use Rattle.lvs_spec.specs.Model.{node_of}
use Rattle.lvs_spec.specs.Model.{symbol_of, model_of}
use Rattle.lvs_description.specs.Format.{Format, integer_bytes, holds, integer, text, component, within, behind}
use Rattle.lvs_description.specs.Description as description
use Rattle.lvs_description.proofs.Numbers.{integer_formed, integer_back, integer_shorter, component_formed, component_back, component_read}
use Rattle.lvs_description.proofs.Rows.{Found, disjoint}
use Rattle.lvs_description.proofs.Given.{here, past_once, optional_other}
use Rattle.lvs_description.proofs.Parts.{Cell, Part, once_part, maybe_part, many_part, then_part, under_part, Container, container}
use Rattle.lvs_description.proofs.Choices.{Written, Alternative, alternative, no_more, or_else, one_choice, many_choice}

-- ---- cells

module _ {inner : Kind → List ℕ → Bool} {k : Kind} where
  -- an integer, in its shortest width
  integer_cell : (t : ℕ) → meaning t ≡ known (leaf grammar.integer) → Cell inner k t (integer t) number_of
  unfolding inside_ok leaf_in
  integer_cell t m =
      record {
        what = leaf grammar.integer;
        known_is = m;
        inside = integer_bytes;
        elements_is = λ a. refl;
        formed_is = λ a h. integer_formed a;
        back = λ a h ok. integer_back a;
        kept = λ x F. (refl, integer_shorter x F.bytes F.ok);
      }

  -- a component, in a Value
  component_cell : Cell inner k type.Value (component type.Value) component_of
  unfolding inside_ok leaf_in meaning known_types lookup
  component_cell =
      record {
        what = leaf grammar.value;
        known_is = refl;
        inside = element_bytes;
        elements_is = λ a. refl;
        formed_is = component_formed;
        back = component_back;
        kept = λ x F. let C = component_read x F.bytes F.ok in (C.formed, omega (arith, ap length C.same));
      }

  -- a text is its own inside
  text_cell : (t : ℕ) (l : Leaf) (ok : List ℕ → Bool) → meaning t ≡ known (leaf l) → ((x : List ℕ) → leaf_in k l x ≡ ok x)
      → Cell inner k t (text t ok) (λ x. x)
  unfolding inside_ok
  text_cell t l ok m same =
      record {
        what = leaf l;
        known_is = m;
        inside = λ x. x;
        elements_is = λ a. refl;
        formed_is = λ a h. same a;
        back = λ a h f. refl;
        kept = λ x F. (sym (same x) ∙ F.ok, le_refl (length x));
      }

-- the inside of a container is a container
within_cell : {A : Type 0} {n : ℕ} {k j : Kind} {f : Format A} {of : List ℕ → A} (t : ℕ) → meaning t ≡ known (grammar.container j) → Container n j f of
    → Cell (well_formed_by n) k t (within t f) of
unfolding inside_ok
within_cell {j = j} {f = f} t m C =
    record {
      what = grammar.container j;
      known_is = m;
      inside = λ a. encode (f.elements a);
      elements_is = λ a. refl;
      formed_is = C.formed_is;
      back = C.back;
      kept = λ x F. C.kept x (record { bytes = F.bytes; fits = F.short; formed = F.ok });
    }

-- ---- the containers

-- a UserFnArg: one Value or one Tag
pub argument_container : Container 1 grammar.userFnArg description.argument argument_of
unfolding order argument_of argument_from meaning known_types lookup
argument_container =
    one_choice (record { written = written; skips = skips; reads = or_else value (or_else tag no_more) }) (Argument.tag 0) argument_of (λ b. refl) refl
  where
    K : Kind
    K = grammar.userFnArg

    ts : List ℕ
    ts = type.Value ∷ type.Tag ∷ []

    value : Alternative (well_formed_by 0) K ts description.argument argument_from type.Value Argument.value
    value = alternative component_cell Argument.value (λ b. refl) (λ b. refl) (λ x. refl) refl

    tag : Alternative (well_formed_by 0) K ts description.argument argument_from type.Tag Argument.tag
    tag = alternative (integer_cell type.Tag refl) Argument.tag (λ b. refl) (λ b. refl) (λ x. refl) refl

    written : (a : Argument) → Written (well_formed_by 0) K ts description.argument argument_from a
    written (Argument.value e) = value.written e
    written (Argument.tag t) = tag.written t

    skips : (e : Element) → meaning e.type ≡ grammar.optional → argument_from e ≡ []
    skips e q = rw (optional_other type.Value (leaf grammar.value) refl e q, optional_other type.Tag (leaf grammar.integer) refl e q)

-- a ValueEdge: the destination and the component
pub value_edge_container : Container 5 grammar.value_edge description.value_edge value_edge_of
unfolding order meaning known_types lookup value_edge_of the_integer the_inside
value_edge_container =
    container
    (under_part _ _ (λ b. refl) (λ a. refl)
    (then_part refl (once_part (integer_cell type.NodeId refl) here) (once_part component_cell (past_once here))))
    refl value_edge_of (λ b. refl)

-- a TagSymbol: its Tag and its Identifier
pub symbol_container : Container 6 grammar.tagSymbol description.symbol symbol_of
unfolding order meaning known_types lookup symbol_of the_integer the_inside leaf_in text_in
symbol_container =
    container
    (under_part _ _ (λ b. refl) (λ a. refl)
    (then_part refl (once_part (integer_cell type.Tag refl) here)
    (once_part (text_cell type.Identifier grammar.text identifier refl (λ x. refl)) (past_once here))))
    refl symbol_of (λ b. refl)

-- a UserFnCall: the FnId and the arguments
pub call_container : Container 2 grammar.userFnCall description.call call_of
unfolding order step meaning known_types lookup call_of the_inside leaf_in
call_container =
    container
    (under_part _ _ (λ b. refl) (λ a. refl)
    (then_part refl (once_part (text_cell type.FnId grammar.functionId (marked 36) refl (λ x. refl)) here)
    (many_part (within_cell type.UserFnArg refl argument_container) refl)))
    refl call_of (λ b. refl)

-- a ConstraintOption: any number of Values, Tags and calls
pub option_container : Container 3 grammar.constraintOption description.option option_of
unfolding order option_of term_from meaning known_types lookup
option_container =
    many_choice (record { written = written; skips = skips; reads = or_else value (or_else tag (or_else call no_more)) }) option_of (λ b. refl) refl
  where
    K : Kind
    K = grammar.constraintOption

    ts : List ℕ
    ts = type.Value ∷ type.Tag ∷ type.UserFnCall ∷ []

    value : Alternative (well_formed_by 2) K ts description.term term_from type.Value Term.value
    value = alternative component_cell Term.value (λ b. refl) (λ b. refl) (λ x. refl) refl

    tag : Alternative (well_formed_by 2) K ts description.term term_from type.Tag Term.tag
    tag = alternative (integer_cell type.Tag refl) Term.tag (λ b. refl) (λ b. refl) (λ x. refl) refl

    call : Alternative (well_formed_by 2) K ts description.term term_from type.UserFnCall Term.call
    call = alternative (within_cell type.UserFnCall refl call_container) Term.call (λ b. refl) (λ b. refl) (λ x. refl) refl

    written : (a : Term) → Written (well_formed_by 2) K ts description.term term_from a
    written (Term.value e) = value.written e
    written (Term.tag t) = tag.written t
    written (Term.call c) = call.written c

    skips : (e : Element) → meaning e.type ≡ grammar.optional → term_from e ≡ []
    skips e q =
        rw (
          optional_other type.Value (leaf grammar.value) refl e q,
          optional_other type.Tag (leaf grammar.integer) refl e q,
          optional_other type.UserFnCall (grammar.container grammar.userFnCall) refl e q,
        )

-- a Constraint: its options
pub constraint_container : Container 4 grammar.constraint description.constraint constraint_of
unfolding order step meaning known_types lookup constraint_of
constraint_container =
    container (many_part (within_cell type.ConstraintOption refl option_container) refl) refl constraint_of (λ b. refl)

-- a PatternEdge: the destination, the Tag and the Constraints
pub pattern_edge_container : Container 5 grammar.pattern_edge description.pattern_edge pattern_edge_of
unfolding order step meaning known_types lookup pattern_edge_of the_integer the_inside
pattern_edge_container =
    container
    (under_part _ _ (λ b. refl) (λ a. refl)
    (then_part refl (once_part (integer_cell type.NodeId refl) here)
    (then_part refl (once_part (integer_cell type.Tag refl) (past_once here))
    (many_part (within_cell type.Constraint refl constraint_container) refl))))
    refl pattern_edge_of (λ b. refl)

-- a Node: the id, the Parent if there is one, the rule names, the edges of both kinds, the signers
pub node_container : Container 6 grammar.node description.node node_of
unfolding order step meaning known_types lookup node_of integers the_integer the_inside leaf_in text_in
node_container =
    container
    (under_part _ _ (λ b. refl) (λ a. refl)
    (then_part refl (once_part (integer_cell type.NodeId refl) here)
    (then_part refl (maybe_part (integer_cell type.Parent refl) refl)
    (then_part refl (many_part (text_cell type.Identifier grammar.text (marked 35) refl (λ x. refl)) refl)
    (then_part refl (many_part (within_cell type.ValueEdge refl value_edge_container) refl)
    (then_part refl (many_part (within_cell type.PatternEdge refl pattern_edge_container) refl)
    (many_part (integer_cell type.SignConstraint refl) refl)))))))
    refl node_of (λ b. rw (map-id (insides type.Identifier b)))

-- ---- the model

-- the Version that stands in front, as a format that takes nothing off the lists
abbrev version : Format (Unit {0})
version = record { from = λ l. some (tt, l); onto = λ u l. l; elements = λ u. holds type.Version this_version; formed = λ u. true }

version_cell : {inner : Kind → List ℕ → Bool} → Cell inner grammar.model type.Version version (λ x. tt)
unfolding inside_ok leaf_in meaning known_types lookup
version_cell =
    record {
      what = leaf grammar.version;
      known_is = refl;
      inside = λ u. this_version;
      elements_is = λ u. refl;
      formed_is = λ u h. refl;
      back = λ u h ok. refl;
      kept = λ x F. (refl, omega (arith, eqb-true (length x) 4 F.ok));
    }

-- the parts behind it
behind_part : {A : Type 0} {inner : Kind → List ℕ → Bool} {own : List ℕ} {items left : List Item} {f : Format A} {read : Found → A}
    → disjoint (the type.Version) own ≡ true → Part inner grammar.model own items left f read
    → Part inner grammar.model (type.Version ∷ own) (once (the type.Version) ∷ items) left (behind (holds type.Version this_version) f) read
unfolding order
behind_part d P =
    let Q = then_part d (once_part version_cell here) P in
    record {
      laid = λ a L. Q.laid (tt, a) L;
      formed_is = λ a h. Q.formed_is (tt, a) h;
      foreign = λ t m a. Q.foreign t m (tt, a);
      back = λ a F h ok same. ap (λ p. p.1) (Q.back (tt, a) F h ok same);
      kept = λ F G. Q.kept F G;
    }

-- the model: the Version, the start, the pattern count, the Nodes and the symbols
pub model_container : Container 7 grammar.model description.model model_of
unfolding order step meaning known_types lookup model_of the_integer the_inside
model_container =
    container
    (under_part _ _ (λ b. refl) (λ a. refl)
    (behind_part refl
    (then_part refl (once_part (integer_cell type.NodeId refl) (past_once here))
    (then_part refl (once_part (integer_cell type.NamedPatternCnt refl) (past_once (past_once here)))
    (then_part refl (many_part (within_cell type.Node refl node_container) refl)
    (many_part (within_cell type.TagSymbol refl symbol_container) refl))))))
    refl model_of (λ b. refl)
