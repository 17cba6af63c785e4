-- A container's part of the description is the parts of what it holds, one behind the other. Assumes nothing.
use mathlib.Core.Path.{◌≡◌, refl, sym, ap, ◌∙◌}
use mathlib.Core.List.{List, []}
use Prim.Native.Nat.{ℕ, ◌-◌, ◌≤◌, ◌<◌}
use native.Mathlib.Omega.{arith}
use borrow.Author.Tests.{ne_eqb}
use lib.ListN.{length, take, drop, length-drop, drop_of_length-le}
use lib.Seq.{take_all, take-nil}
use Rattle.tlv.specs.Lists.{first}
use Rattle.tlv.specs.Element.{element, cuts_by, cuts}
use Rattle.tlv.specs.Fields.{each_cut, number_of, integers, the_integer, the_inside}
use Rattle.lvs_spec.specs.Types as type
use Rattle.lvs_spec.specs.Leaves.{marked}
use Rattle.lvs_spec.specs.Model.{Argument, component_of, argument_of, call_of, value_edge_of, pattern_edge_of, node_of, symbol_of, model_of}
use Rattle.lvs_edges.specs.Plain.{FieldsOf}
use Rattle.lvs_edges.specs.declared.fields.PatternFields.{PatternFields}
use Rattle.lvs_description.specs.Format.{Lists, put, put_text, Format, integer, text, component, ◌then◌, maybe, many}
use Rattle.lvs_description.specs.Description.{argument, call, value_edge, pattern_edge, node, symbol, lists_of}
use Rattle.lvs_describe.specs.Parts.{nothing, number, joined, shown, row}
use Rattle.lvs_describe.specs.Lent.{Describes}
use Rattle.lvs_describe.specs.Sorts.{own, term_of, item_of, items_of, row_of}
use Rattle.lvs_describe.specs.declared.output.Output.{Output}
use Rattle.lvs_describe.specs.declared.rows.Sort.{Sort}
use Rattle.lvs_describe.specs.declared.rows.Sort.TheVariants as sort
use Rattle.lvs_names.specs.Contents.{ContentOf}
use Rattle.lvs_names.specs.declared.Content.{Content}
use Rattle.std.specs.Prelude.{Option}
use Rattle.lvs_describe.proofs.Puts.{describes_as}
use Rattle.lvs_describe.proofs.Appended.{Appended, integer_appended, text_appended, maybe_appended, many_appended, within_appended}
use Rattle.lvs_describe.proofs.Appended.{value_edge_appended, pattern_edge_appended, node_appended}
use Rattle.lvs_describe.proofs.Items.{Row, nodes_are, symbols_are, names_are, values_are, patterns_are, signers_are, constraints_are, options_are}
use Rattle.lvs_describe.proofs.Items.{terms_are, arguments_are, no_parent_lem, a_parent}

-- ---- one format's part and then another's

-- l is f's part of a description, for a
record Shown {A : Type 0} (f : Format A) (a : A) (l : Lists) : Type 0 where
  is : l ≡ shown f a

module _ {A B : Type 0} {g : Format B} {b : B} {m : Lists} where
  then_shown : {f : Format A} {a : A} {l : Lists} → Appended f → Shown f a l → Shown g b m → Shown (f then g) (a, b) (joined l m)
  unfolding shown
  then_shown {f} {a} {l} F p q = record { is = (λ i. joined (p.is i) (q.is i)) ∙ sym (F.splits a (g.onto b nothing)) }

  -- behind a number
  numbered_shown : (n : ℕ) (f : Format A) (a : A) → Appended f → Shown g b m → joined (put n (shown f a)) m ≡ put n (shown (f then g) (a, b))
  numbered_shown n f a F q = ap (put n) (then_shown {f = f} {a = a} F (record { is = refl }) q).is

row_shown : {A : Type 0} {k : Sort} {f : Format A} {of : List ℕ → List A} → Row k f of → (b : List ℕ) → Shown (many f) (of b) (row_of k b)
row_shown R b = record { is = R.is b }

-- in no bytes there is none
row_empty : (k : Sort) → row_of k [] ≡ number 0
unfolding row_of row items_of each_cut cuts cuts_by element
row_empty k = refl

-- ---- parts that hold no row

module _ (b : List ℕ) where
  pub value_argument : (s : List ℕ) → argument_of b ≡ Argument.value (component_of s)
      → put 0 (shown (component type.Value) (component_of s)) ≡ shown argument (argument_of b)
  unfolding shown
  value_argument s e = rw e

  pub tag_argument : {n : ℕ} → argument_of b ≡ Argument.tag n → put 1 (number n) ≡ shown argument (argument_of b)
  unfolding shown
  tag_argument e = rw e

  pub no_parent : {i n : ℕ} → i ≡ the_integer type.NodeId b → n ≡ length (items_of sort.Parent b) → n < 1 → put i (number 0) ≡ own b
  unfolding own shown
  no_parent g e h = rw (no_parent_lem b e h, ← g)

  pub with_parent : {i n p : ℕ} → i ≡ the_integer type.NodeId b → n ≡ length (items_of sort.Parent b) → 1 ≤ n → p ≡ the_integer type.Parent b
      → joined (number i) (put 1 (number p)) ≡ own b
  unfolding own shown
  with_parent k e h f = rw (a_parent b e h, ← f, ← k)

  pub value_edge_is : {n : ℕ} {v : List ℕ} → n ≡ the_integer type.NodeId b → v ≡ the_inside type.Value b
      → put n (shown (component type.Value) (component_of v)) ≡ shown value_edge (value_edge_of b)
  unfolding shown value_edge_of
  value_edge_is e f = rw (← e, ← f)

  pub symbol_is : {n : ℕ} {s : List ℕ} → n ≡ the_integer type.Tag b → s ≡ the_inside type.Identifier b
      → put n (put_text s nothing) ≡ shown symbol (symbol_of b)
  unfolding shown symbol_of
  symbol_is e f = rw (← e, ← f)

  pub component_is : (n : ℕ) {c : Content} → ContentOf b c
      → joined (number n) (put c.typ (put_text (take (c.end - c.start) (drop c.start b)) nothing)) ≡ put n (shown (component type.Value) (component_of b))
  unfolding shown
  component_is n C = rw C.is

  -- ---- containers

  pub call_is : {s : List ℕ} → s ≡ the_inside type.FnId b → joined (put 2 (put_text s nothing)) (row_of sort.Argument b) ≡ put 2 (shown call (call_of b))
  unfolding shown call_of
  call_is {s} e =
      ap (λ (x : List ℕ). joined (put 2 (put_text x nothing)) (row_of sort.Argument b)) e ∙
      numbered_shown 2 (text type.FnId (marked 36)) (the_inside type.FnId b) (text_appended type.FnId (marked 36)) (row_shown arguments_are b)

  pub pattern_edge_is : {f : PatternFields} → FieldsOf b f
      → joined (put f.dest (number f.tag)) (row_of sort.Constraint (take (length b - f.rest) (drop f.rest b))) ≡ shown pattern_edge (pattern_edge_of b)
  unfolding shown pattern_edge_of
  pattern_edge_is {f} F =
      let all : take (length b - f.rest) (drop f.rest b) ≡ drop f.rest b = take_all (length b - f.rest) (drop f.rest b) (simp length-drop (omega arith)) in
      ap (λ (x : List ℕ). joined (put f.dest (number f.tag)) (row_of sort.Constraint x)) all ∙
      ap (joined (put f.dest (number f.tag))) (constraints_are.is (drop f.rest b)) ∙ rw (F.destination, F.tag_is, F.constraints)

  -- nothing stands behind the fields
  pub plain_edge_is : {f : PatternFields} → FieldsOf b f → length b ≤ f.rest
      → joined (put f.dest (number f.tag)) (number 0) ≡ shown pattern_edge (pattern_edge_of b)
  plain_edge_is {f} F h =
      let none : take (length b - f.rest) (drop f.rest b) ≡ [] = ap (take (length b - f.rest)) (drop_of_length-le b h) ∙ take-nil (length b - f.rest) in
      ap (joined (put f.dest (number f.tag))) (sym (row_empty sort.Constraint) ∙ ap (row_of sort.Constraint) (sym none)) ∙ pattern_edge_is F

  pub model_is : {n c : ℕ} → n ≡ the_integer type.NodeId b → c ≡ the_integer type.NamedPatternCnt b
      → joined (put n (number c)) (joined (row_of sort.Node b) (row_of sort.Symbol b)) ≡ lists_of (model_of b)
  unfolding shown lists_of model_of
  model_is {n} {c} e f =
      ap (joined (put n (number c)))
      (then_shown (many_appended (within_appended node_appended type.Node)) (row_shown nodes_are b) (row_shown symbols_are b)).is ∙
      rw (← e, ← f)

  pub node_is : joined (own b) (joined (row_of sort.RuleName b) (joined (row_of sort.ValueEdge b) (joined (row_of sort.PatternEdge b) (row_of sort.Signer b))))
      ≡ shown node (node_of b)
  unfolding own shown node_of
  node_is =
      numbered_shown (the_integer type.NodeId b) (maybe (integer type.Parent)) (first (integers type.Parent b))
      (maybe_appended (integer_appended type.Parent))
      (then_shown (many_appended (text_appended type.Identifier (marked 35))) (row_shown names_are b)
      (then_shown (many_appended (within_appended value_edge_appended type.ValueEdge)) (row_shown values_are b)
      (then_shown (many_appended (within_appended pattern_edge_appended type.PatternEdge)) (row_shown patterns_are b) (row_shown signers_are b))))

-- ---- an element, by its sort

module _ (t : ℕ) (b : List ℕ) where
  pub node_item : shown node (node_of b) ≡ item_of sort.Node t b
  unfolding item_of
  node_item = refl

  pub symbol_item : shown symbol (symbol_of b) ≡ item_of sort.Symbol t b
  unfolding item_of
  symbol_item = refl

  pub parent_item : {n : ℕ} → n ≡ number_of b → number n ≡ item_of sort.Parent t b
  unfolding item_of shown
  parent_item e = rw e

  pub name_item : put_text b nothing ≡ item_of sort.RuleName t b
  unfolding item_of shown
  name_item = refl

  pub value_edge_item : shown value_edge (value_edge_of b) ≡ item_of sort.ValueEdge t b
  unfolding item_of
  value_edge_item = refl

  pub pattern_edge_item : shown pattern_edge (pattern_edge_of b) ≡ item_of sort.PatternEdge t b
  unfolding item_of
  pattern_edge_item = refl

  pub signer_item : {n : ℕ} → n ≡ number_of b → number n ≡ item_of sort.Signer t b
  unfolding item_of shown
  signer_item e = rw e

  pub constraint_item : row_of sort.ConstraintOption b ≡ item_of sort.Constraint t b
  unfolding item_of shown
  constraint_item = options_are.is b

  pub option_item : row_of sort.Term b ≡ item_of sort.ConstraintOption t b
  unfolding item_of
  option_item = terms_are b

  pub value_item : t ≡ type.Value → put 0 (shown (component type.Value) (component_of b)) ≡ item_of sort.Term t b
  unfolding item_of shown term_of
  value_item e = rw e

  pub tag_item : {n : ℕ} → t ≡ type.Tag → n ≡ number_of b → put 1 (number n) ≡ item_of sort.Term t b
  unfolding item_of shown term_of
  tag_item e f = rw (e, f)

  pub call_item : (t ≡ type.Value → ⊥) → (t ≡ type.Tag → ⊥) → put 2 (shown call (call_of b)) ≡ item_of sort.Term t b
  unfolding item_of shown term_of
  call_item e f = rw (ne_eqb t type.Value e, ne_eqb t type.Tag f)

  pub argument_item : shown argument (argument_of b) ≡ item_of sort.Argument t b
  unfolding item_of
  argument_item = refl

  -- what holds of a sort that is known
  pub of_sort : {k j : Sort} {l : Lists} {s s' : Output} {r : Option (Unit {0})} → k ≡ j → l ≡ item_of j t b → Describes l s s' r
      → Describes (item_of k t b) s s' r
  of_sort e p d = rw e (describes_as p d)
