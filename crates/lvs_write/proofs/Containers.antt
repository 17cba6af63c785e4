-- Each container of a description, as the code goes through it: the parts of its format, one behind the other. Assumes nothing.
use mathlib.Core.Path.{◌≡◌, refl, sym, ap, subst, ◌∙◌}
use mathlib.Core.Option.{none, some}
use mathlib.Core.Option as maybe_value
use mathlib.Core.List.{List, []}
use Rattle.std.specs.Prelude.{Option, None, Some}
use Prim.Native.Nat.{ℕ, zero, suc}
use Rattle.tlv.specs.Lists.{bind}
use lib.Dec.{lit<}
use lib.ListN.{length}
use Rattle.tlv.specs.Number.{number_bytes}
use Rattle.tlv.specs.Element.{encode}
use Rattle.tlv_writer.proofs.Numbers.{short_size}
use Rattle.lvs_spec.specs.Types as type
use Rattle.lvs_spec.specs.Leaves.{marked, identifier}
use Rattle.lvs_spec.specs.Model.{Argument, Term}
use Rattle.lvs_description.specs.Format.{Lists, Taken, take_number, Format, integer, text, component, ◌then◌, many, maybe_from, maybe, within}
use Rattle.lvs_description.specs.Description.{argument_from, argument, call, term_from, term, option, constraint, value_edge, pattern_edge, node, symbol}
use Rattle.lvs_description.specs.Description.{model}
use Rattle.lvs_write.specs.declared.parts.Container.{Container}
use Rattle.lvs_write.specs.declared.parts.Part.{Part}
use Rattle.lvs_write.specs.Spelled.{Bytes, spelled, text_from, after, wrapped, type_of, counted, inside_from, nested_from, part_from}
use Rattle.lvs_write.specs.declared.cursor.Cursor.{Cursor}
use Rattle.lvs_write.specs.Steps.{version_from, left, Took, Missing, Writes}
use Rattle.lvs_write.proofs.Moves.{none_wrote, nothing_wrote, wrote_as, chosen_wrote}
use Rattle.lvs_write.proofs.Fronts.{Same, after_same, after_assoc, text_any, then_spelled, under_spelled, within_spelled, behind_spelled, many_of}

infixr 40 ◌⨾◌
-- one and then another
abbrev pub ◌⨾◌ : (Lists → Bytes) → (Lists → Bytes) → Lists → Bytes
(f ⨾ g) l = after (f l) g

-- a count, and so many of a sort
abbrev pub all_of : Part → Lists → Bytes
all_of p = counted (part_from p)

-- two parts, one behind the other
pub both_parts : {A B : Type 0} {f g : Lists → Bytes} (F : Format A) (G : Format B) → Same f (spelled F) → Same g (spelled G)
    → Same (f ⨾ g) (spelled (F then G))
both_parts F G p q l = after_same p q l ∙ then_spelled F G l

as_it_is : (f : Lists → Bytes) → Same f f
as_it_is f l = refl

-- ---- parts

pub rule_name_part : Same (part_from Part.RuleName) (spelled (text type.Identifier (marked 35)))
unfolding part_from
rule_name_part = text_any type.Identifier (marked 35)

pub signer_part : Same (part_from Part.Signer) (spelled (integer type.SignConstraint))
unfolding part_from
signer_part l = refl

pub term_part : Same (part_from Part.Term) (spelled term)
unfolding part_from
term_part l = refl

pub value_edge_part : Same (part_from Part.ValueEdge) (spelled (within type.ValueEdge value_edge))
unfolding part_from
value_edge_part l = refl

pub pattern_edge_part : Same (part_from (Part.Nested Container.PatternEdge)) (spelled (within type.PatternEdge pattern_edge))
unfolding part_from nested_from inside_from
pattern_edge_part = within_spelled pattern_edge type.PatternEdge

pub constraint_part : Same (part_from (Part.Nested Container.Constraint)) (spelled (within type.Constraint constraint))
unfolding part_from nested_from inside_from
constraint_part = within_spelled constraint type.Constraint

pub option_part : Same (part_from (Part.Nested Container.ConstraintOption)) (spelled (within type.ConstraintOption option))
unfolding part_from nested_from inside_from
option_part = within_spelled option type.ConstraintOption

pub argument_part : Same (part_from (Part.Nested Container.Argument)) (spelled (within type.UserFnArg argument))
unfolding part_from nested_from inside_from
argument_part = within_spelled argument type.UserFnArg

pub node_part : Same (part_from (Part.Nested Container.Node)) (spelled (within type.Node node))
unfolding part_from nested_from inside_from
node_part = within_spelled node type.Node

pub symbol_part : Same (part_from (Part.Nested Container.Symbol)) (spelled (within type.TagSymbol symbol))
unfolding part_from nested_from inside_from
symbol_part = within_spelled symbol type.TagSymbol

-- ---- containers

pub node_parts : Same
    (spelled (integer type.NodeId) ⨾ spelled (maybe (integer type.Parent)) ⨾ all_of Part.RuleName ⨾ all_of Part.ValueEdge ⨾
    all_of (Part.Nested Container.PatternEdge) ⨾ all_of Part.Signer)
    (spelled node)
node_parts l =
    both_parts (integer type.NodeId) _ (as_it_is _)
    (both_parts (maybe (integer type.Parent)) _ (as_it_is _)
    (both_parts (many (text type.Identifier (marked 35))) _ (many_of _ rule_name_part)
    (both_parts (many (within type.ValueEdge value_edge)) _ (many_of _ value_edge_part)
    (both_parts (many (within type.PatternEdge pattern_edge)) (many (integer type.SignConstraint)) (many_of _ pattern_edge_part)
    (many_of _ signer_part))))) l ∙
    under_spelled _ (λ n. (n.id, (n.parent, (n.rule_names, (n.value_edges, (n.pattern_edges, n.signers)))))) _ (λ a. refl) l

pub symbol_parts : Same (spelled (integer type.Tag) ⨾ text_from type.Identifier) (spelled symbol)
symbol_parts l =
    both_parts (integer type.Tag) (text type.Identifier identifier) (as_it_is _) (text_any type.Identifier identifier) l ∙
    under_spelled _ (λ s. (s.tag, s.identifier)) _ (λ a. refl) l

-- two integers in front are written together
pair_first : (t u : ℕ) (g : Lists → Bytes) → Same (spelled (integer t then integer u) ⨾ g) (spelled (integer t) ⨾ spelled (integer u) ⨾ g)
pair_first t u g l =
    after_same (λ k. sym (then_spelled (integer t) (integer u) k)) (as_it_is g) l ∙
    after_assoc (spelled (integer t) l) (spelled (integer u)) g

pub pattern_edge_parts : Same (spelled (integer type.NodeId then integer type.Tag) ⨾ all_of (Part.Nested Container.Constraint)) (spelled pattern_edge)
pattern_edge_parts l =
    pair_first type.NodeId type.Tag _ l ∙
    both_parts (integer type.NodeId) _ (as_it_is _)
    (both_parts (integer type.Tag) (many (within type.Constraint constraint)) (as_it_is _) (many_of _ constraint_part)) l ∙
    under_spelled _ (λ e. (e.destination, (e.tag, e.constraints))) _ (λ a. refl) l

pub call_parts : Same (text_from type.FnId ⨾ all_of (Part.Nested Container.Argument)) (spelled call)
call_parts l =
    both_parts (text type.FnId (marked 36)) (many (within type.UserFnArg argument)) (text_any type.FnId (marked 36)) (many_of _ argument_part) l ∙
    under_spelled _ (λ c. (c.function, c.arguments)) _ (λ a. refl) l

pub constraint_parts : Same (all_of (Part.Nested Container.ConstraintOption)) (spelled constraint)
constraint_parts = many_of _ option_part

pub option_parts : Same (all_of Part.Term) (spelled option)
option_parts = many_of _ term_part

pub model_parts : Same
    (version_from ⨾ spelled (integer type.NodeId then integer type.NamedPatternCnt) ⨾ all_of (Part.Nested Container.Node) ⨾
    all_of (Part.Nested Container.Symbol))
    (spelled model)
model_parts l =
    after_same (as_it_is version_from) (pair_first type.NodeId type.NamedPatternCnt _) l ∙
    after_same (as_it_is version_from)
    (both_parts (integer type.NodeId) _ (as_it_is _)
    (both_parts (integer type.NamedPatternCnt) _ (as_it_is _)
    (both_parts (many (within type.Node node)) (many (within type.TagSymbol symbol)) (many_of _ node_part) (many_of _ symbol_part)))) l ∙
    behind_spelled _ l ∙
    under_spelled _ (λ m. (m.start, (m.pattern_count, (m.nodes, m.symbols)))) _ (λ a. refl) l

-- ---- what a number chooses

-- 0, or 1 and the Parent
unfoldable pub parent_bytes : ℕ → Lists → Bytes
parent_bytes zero l = some ([], l)
parent_bytes (suc zero) l = spelled (integer type.Parent) l
parent_bytes (suc (suc n)) l = none

unfoldable pub argument_bytes : ℕ → Lists → Bytes
argument_bytes zero l = spelled (component type.Value) l
argument_bytes (suc zero) l = spelled (integer type.Tag) l
argument_bytes (suc (suc n)) l = none

unfoldable pub term_bytes : ℕ → Lists → Bytes
term_bytes zero l = spelled (component type.Value) l
term_bytes (suc zero) l = spelled (integer type.Tag) l
term_bytes (suc (suc zero)) l = nested_from Container.Call l
term_bytes (suc (suc (suc n))) l = none

-- what a format reads after its number, as bytes
abbrev shown : {A : Type 0} → Format A → Taken A → Bytes
shown f o = bind o (λ r. some (encode (f.elements r.0), r.1))

-- a format whose number decides, where each choice spells what the number says
module _ {A : Type 0} (f : Format A) (from : ℕ → Lists → Taken A) (bytes : ℕ → Lists → Bytes) where
  choices : ((l : Lists) → f.from l ≡ bind (take_number l) (λ r. from r.0 r.1))
      → ((n : ℕ) (l : Lists) → shown f (from n l) ≡ bytes n l)
      → (l : Lists) → spelled f l ≡ bind (take_number l) (λ x. bytes x.0 x.1)
  unfolding spelled
  choices p q l = rw (p l) (go (take_number l))
    where
      go : (x : Taken ℕ) → shown f (bind x (λ r. from r.0 r.1)) ≡ bind x (λ x. bytes x.0 x.1)
      go none = refl
      go (some r) = q r.0 r.1

  -- one choice: what another format reads, put into this one
  choice : {B : Type 0} (g : Format B) (into : B → A) → ((b : B) → f.elements (into b) ≡ g.elements b) → (l : Lists)
      → shown f (bind (g.from l) (λ r. some (into r.0, r.1))) ≡ spelled g l
  unfolding spelled
  choice {B} g into same l = go (g.from l)
    where
      go : (x : Taken B) → shown f (bind x (λ r. some (into r.0, r.1))) ≡ shown g x
      go none = refl
      go (some r) = rw (same r.0)

pub parent_chosen : (l : Lists) → spelled (maybe (integer type.Parent)) l ≡ bind (take_number l) (λ x. parent_bytes x.0 x.1)
unfolding parent_bytes encode
parent_chosen = choices F (maybe_from (integer type.Parent).from) parent_bytes (λ l. refl) each_case
  where
    F : Format (maybe_value.Option ℕ)
    F = maybe (integer type.Parent)

    each_case : (n : ℕ) (l : Lists) → shown F (maybe_from (integer type.Parent).from n l) ≡ parent_bytes n l
    each_case zero l = refl
    each_case (suc zero) l = choice F (maybe_from (integer type.Parent).from) parent_bytes (integer type.Parent) some (λ b. refl) l
    each_case (suc (suc n)) l = refl

pub argument_chosen : (l : Lists) → spelled argument l ≡ bind (take_number l) (λ x. argument_bytes x.0 x.1)
unfolding argument_bytes
argument_chosen = choices argument argument_from argument_bytes (λ l. refl) each_case
  where
    each_case : (n : ℕ) (l : Lists) → shown argument (argument_from n l) ≡ argument_bytes n l
    each_case zero l = choice argument argument_from argument_bytes (component type.Value) Argument.value (λ b. refl) l
    each_case (suc zero) l = choice argument argument_from argument_bytes (integer type.Tag) Argument.tag (λ b. refl) l
    each_case (suc (suc n)) l = refl

pub term_chosen : (l : Lists) → spelled term l ≡ bind (take_number l) (λ x. term_bytes x.0 x.1)
unfolding term_bytes nested_from inside_from
term_chosen = choices term term_from term_bytes (λ l. refl) each_case
  where
    each_case : (n : ℕ) (l : Lists) → shown term (term_from n l) ≡ term_bytes n l
    each_case zero l = choice term term_from term_bytes (component type.Value) Term.value (λ b. refl) l
    each_case (suc zero) l = choice term term_from term_bytes (integer type.Tag) Term.tag (λ b. refl) l
    each_case (suc (suc zero)) l =
        choice term term_from term_bytes (within type.UserFnCall call) Term.call (λ b. refl) l ∙ sym (within_spelled call type.UserFnCall l)
    each_case (suc (suc (suc n))) l = refl

-- ---- which number it was

module _ {f : Lists → Bytes} (h : ℕ → Lists → Bytes) (f-is : (l : Lists) → f l ≡ bind (take_number l) (λ x. h x.0 x.1)) {s : Cursor}
    {before now : List ℕ} where
  -- there is none
  no_number : Missing take_number s → Writes f before now s None
  no_number e = none_wrote (record { is = f-is (left s) ∙ rw e.is })

  module _ {m : Cursor} {v : ℕ} (T : Took take_number s v m) where
    at_number : {r : Option Cursor} (k : ℕ) → v ≡ k → Writes (h k) before now m r → Writes f before now s r
    at_number {r} k e W = chosen_wrote T h f-is (subst (λ (x : ℕ). Writes (h x) before now m r) (sym e) W)

    at_none : ((l : Lists) → h v l ≡ none) → Writes f before now s None
    at_none none_is = chosen_wrote T h f-is (none_wrote (record { is = none_is (left m) }))

module _ {s : Cursor} {before now : List ℕ} where
  pub parent_missing : Missing take_number s → Writes (spelled (maybe (integer type.Parent))) before now s None
  parent_missing = no_number parent_bytes parent_chosen

  pub argument_missing : Missing take_number s → Writes (spelled argument) before now s None
  argument_missing = no_number argument_bytes argument_chosen

  pub term_missing : Missing take_number s → Writes (spelled term) before now s None
  term_missing = no_number term_bytes term_chosen

module _ {s m : Cursor} {v : ℕ} (T : Took take_number s v m) where
  pub parent_absent : {b : List ℕ} → v ≡ 0 → Writes (spelled (maybe (integer type.Parent))) b b s (Some m)
  unfolding parent_bytes
  parent_absent {b} e = at_number parent_bytes parent_chosen T 0 e (nothing_wrote b m)

  pub parent_there : {before now : List ℕ} {r : Option Cursor} → v ≡ 1 → Writes (spelled (integer type.Parent)) before now m r
      → Writes (spelled (maybe (integer type.Parent))) before now s r
  unfolding parent_bytes
  parent_there e W = at_number parent_bytes parent_chosen T 1 e W

  pub parent_other : {before now : List ℕ} → (v ≡ 0 → ⊥) → (v ≡ 1 → ⊥) → Writes (spelled (maybe (integer type.Parent))) before now s None
  unfolding parent_bytes
  parent_other x y = at_none parent_bytes parent_chosen T (go v x y)
    where
      go : (k : ℕ) → (k ≡ 0 → ⊥) → (k ≡ 1 → ⊥) → (l : Lists) → parent_bytes k l ≡ none
      go zero p q l = absurd (p refl)
      go (suc zero) p q l = absurd (q refl)
      go (suc (suc n)) p q l = refl

  pub argument_value : {before now : List ℕ} {r : Option Cursor} → v ≡ 0 → Writes (spelled (component type.Value)) before now m r
      → Writes (spelled argument) before now s r
  unfolding argument_bytes
  argument_value e W = at_number argument_bytes argument_chosen T 0 e W

  pub argument_tag : {before now : List ℕ} {r : Option Cursor} → v ≡ 1 → Writes (spelled (integer type.Tag)) before now m r
      → Writes (spelled argument) before now s r
  unfolding argument_bytes
  argument_tag e W = at_number argument_bytes argument_chosen T 1 e W

  pub argument_other : {before now : List ℕ} → (v ≡ 0 → ⊥) → (v ≡ 1 → ⊥) → Writes (spelled argument) before now s None
  unfolding argument_bytes
  argument_other x y = at_none argument_bytes argument_chosen T (go v x y)
    where
      go : (k : ℕ) → (k ≡ 0 → ⊥) → (k ≡ 1 → ⊥) → (l : Lists) → argument_bytes k l ≡ none
      go zero p q l = absurd (p refl)
      go (suc zero) p q l = absurd (q refl)
      go (suc (suc n)) p q l = refl

  pub term_value : {before now : List ℕ} {r : Option Cursor} → v ≡ 0 → Writes (spelled (component type.Value)) before now m r
      → Writes (spelled term) before now s r
  unfolding term_bytes
  term_value e W = at_number term_bytes term_chosen T 0 e W

  pub term_tag : {before now : List ℕ} {r : Option Cursor} → v ≡ 1 → Writes (spelled (integer type.Tag)) before now m r → Writes (spelled term) before now s r
  unfolding term_bytes
  term_tag e W = at_number term_bytes term_chosen T 1 e W

  pub term_call : {before now : List ℕ} {r : Option Cursor} → v ≡ 2 → Writes (nested_from Container.Call) before now m r → Writes (spelled term) before now s r
  unfolding term_bytes
  term_call e W = at_number term_bytes term_chosen T 2 e W

  pub term_other : {before now : List ℕ} → (v ≡ 0 → ⊥) → (v ≡ 1 → ⊥) → (v ≡ 2 → ⊥) → Writes (spelled term) before now s None
  unfolding term_bytes
  term_other x y z = at_none term_bytes term_chosen T (go v x y z)
    where
      go : (k : ℕ) → (k ≡ 0 → ⊥) → (k ≡ 1 → ⊥) → (k ≡ 2 → ⊥) → (l : Lists) → term_bytes k l ≡ none
      go zero p q w l = absurd (p refl)
      go (suc zero) p q w l = absurd (q refl)
      go (suc (suc zero)) p q w l = absurd (w refl)
      go (suc (suc (suc n))) p q w l = refl

-- ---- containers, by kind

pub node_inside : Same (spelled node) (inside_from Container.Node)
unfolding inside_from
node_inside l = refl

pub symbol_inside : Same (spelled symbol) (inside_from Container.Symbol)
unfolding inside_from
symbol_inside l = refl

pub pattern_edge_inside : Same (spelled pattern_edge) (inside_from Container.PatternEdge)
unfolding inside_from
pattern_edge_inside l = refl

pub constraint_inside : Same (counted (part_from (Part.Nested Container.ConstraintOption))) (inside_from Container.Constraint)
unfolding inside_from
constraint_inside = constraint_parts

pub option_inside : Same (counted (part_from Part.Term)) (inside_from Container.ConstraintOption)
unfolding inside_from
option_inside = option_parts

pub call_inside : Same (spelled call) (inside_from Container.Call)
unfolding inside_from
call_inside l = refl

pub argument_inside : Same (spelled argument) (inside_from Container.Argument)
unfolding inside_from
argument_inside l = refl

-- what holds of a container that is known holds of it by its name
pub by_container : {c k : Container} {f : Lists → Bytes} {before now : List ℕ} {s : Cursor} {r : Option Cursor} → c ≡ k → Same f (inside_from k)
    → Writes f before now s r → Writes (inside_from c) before now s r
by_container {c} {k} {f} {before} {now} {s} {r} e p W = subst (λ (x : Container). Writes (inside_from x) before now s r) (sym e) (wrote_as p W)

pub by_part : {c k : Part} {f : Lists → Bytes} {before now : List ℕ} {s : Cursor} {r : Option Cursor} → c ≡ k → Same f (part_from k)
    → Writes f before now s r → Writes (part_from c) before now s r
by_part {c} {k} {f} {before} {now} {s} {r} e p W = subst (λ (x : Part). Writes (part_from x) before now s r) (sym e) (wrote_as p W)

pub rule_name_written : Same (text_from type.Identifier) (part_from Part.RuleName)
unfolding part_from
rule_name_written l = refl

pub signer_written : Same (spelled (integer type.SignConstraint)) (part_from Part.Signer)
unfolding part_from
signer_written l = refl

pub term_written : Same (spelled term) (part_from Part.Term)
unfolding part_from
term_written l = refl

pub value_edge_written : Same (spelled (within type.ValueEdge value_edge)) (part_from Part.ValueEdge)
unfolding part_from
value_edge_written l = refl

pub nested_written : (c : Container) → Same (nested_from c) (part_from (Part.Nested c))
unfolding part_from
nested_written c l = refl

pub nested_as : {t : ℕ} (c : Container) → t ≡ type_of c → Same (λ l. wrapped t (inside_from c l)) (nested_from c)
unfolding nested_from
nested_as c e l = ap (λ (k : ℕ). wrapped k (inside_from c l)) e

-- a container's type takes one byte
pub type_short : {t : ℕ} (c : Container) → t ≡ type_of c → length (number_bytes t) ≡ 1
type_short c e = rw e (go c)
  where
    go : (k : Container) → length (number_bytes (type_of k)) ≡ 1
    go Container.Node = short_size _ (lit< tt)
    go Container.Symbol = short_size _ (lit< tt)
    go Container.PatternEdge = short_size _ (lit< tt)
    go Container.Constraint = short_size _ (lit< tt)
    go Container.ConstraintOption = short_size _ (lit< tt)
    go Container.Call = short_size _ (lit< tt)
    go Container.Argument = short_size _ (lit< tt)
