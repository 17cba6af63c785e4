-- Each format puts its own part in front of what it is given: `f.onto a l` is `f.onto a nothing`, and then l. Assumes nothing.
use mathlib.Core.Path.{◌≡◌, refl, sym, ap, ◌∙◌}
use mathlib.Core.Bool.{Bool}
use mathlib.Core.List.{List, [], ◌∷◌, map, append_assoc, append-nil}
use mathlib.Core.Option.{Option, none, some}
use Prim.Native.Nat.{ℕ}
use lib.ListN.{length, length-map}
use Rattle.lvs_spec.specs.Types as type
use Rattle.lvs_spec.specs.Leaves.{identifier, marked}
use Rattle.lvs_spec.specs.Model.{Argument, Term}
use Rattle.lvs_description.specs.Format.{Lists, put, put_text, Format, integer, text, component, ◌then◌, under, onto_all, many, onto_maybe, maybe, within}
use Rattle.lvs_description.specs.Description.{argument, call, term, option, constraint, value_edge, pattern_edge, node, symbol}
use Rattle.lvs_describe.specs.Parts.{nothing, joined, joined_all, shown, row}

pub record Appended {A : Type 0} (f : Format A) : Type 0 where
  pub splits : (a : A) (l : Lists) → f.onto a l ≡ joined (f.onto a nothing) l

pub joined_assoc : (a b c : Lists) → joined (joined a b) c ≡ joined a (joined b c)
joined_assoc a b c =
    let n = append_assoc a.numbers b.numbers c.numbers in
    let t = append_assoc a.texts b.texts c.texts in
    λ i. record { numbers = n i; texts = t i }

-- ---- the formats

pub integer_appended : (t : ℕ) → Appended (integer t)
integer_appended t = record { splits = λ n l. refl }

text_splits : (s : List ℕ) (l : Lists) → put_text s l ≡ joined (put_text s nothing) l
text_splits s l = rw append-nil

pub text_appended : (t : ℕ) (ok : List ℕ → Bool) → Appended (text t ok)
text_appended t ok = record { splits = text_splits }

pub component_appended : (t : ℕ) → Appended (component t)
component_appended t = record { splits = λ e l. ap (put e.type) (text_splits e.inside l) }

module _ {A B : Type 0} where
  pub then_appended : {f : Format A} {g : Format B} → Appended f → Appended g → Appended (f then g)
  then_appended {f} {g} F G = record { splits = splits }
    where
      splits : (p : A × B) (l : Lists) → (f then g).onto p l ≡ joined ((f then g).onto p nothing) l
      splits p l =
          let a = f.onto p.0 nothing in
          let b = g.onto p.1 nothing in
          F.splits p.0 (g.onto p.1 l) ∙ ap (joined a) (G.splits p.1 l) ∙ sym (joined_assoc a b l) ∙
          ap (λ (m : Lists). joined m l) (sym (F.splits p.0 b))

  pub under_appended : (there : A → B) (back : B → A) {f : Format A} → Appended f → Appended (under there back f)
  under_appended there back F = record { splits = λ b l. F.splits (back b) l }

module _ {A : Type 0} {f : Format A} (F : Appended f) where
  all_splits : (xs : List A) (l : Lists) → onto_all f.onto xs l ≡ joined (onto_all f.onto xs nothing) l
  all_splits [] l = refl
  all_splits (x ∷ xs) l =
      let a = f.onto x nothing in
      let b = onto_all f.onto xs nothing in
      F.splits x (onto_all f.onto xs l) ∙ ap (joined a) (all_splits xs l) ∙ sym (joined_assoc a b l) ∙ ap (λ (m : Lists). joined m l) (sym (F.splits x b))

  pub many_appended : Appended (many f)
  many_appended = record { splits = λ xs l. ap (put (length xs)) (all_splits xs l) }

  pub maybe_appended : Appended (maybe f)
  maybe_appended = record { splits = splits }
    where
      splits : (o : Option A) (l : Lists) → onto_maybe f.onto o l ≡ joined (onto_maybe f.onto o nothing) l
      splits none l = refl
      splits (some a) l = ap (put 1) (F.splits a l)

  pub within_appended : (t : ℕ) → Appended (within t f)
  within_appended t = record { splits = F.splits }

  -- a row of them
  all_joined : (xs : List A) → joined_all (map (shown f) xs) ≡ onto_all f.onto xs nothing
  unfolding shown
  all_joined [] = refl
  all_joined (x ∷ xs) = ap (joined (f.onto x nothing)) (all_joined xs) ∙ sym (F.splits x (onto_all f.onto xs nothing))

  pub row_shown : (xs : List A) → row (map (shown f) xs) ≡ shown (many f) xs
  unfolding row shown
  row_shown xs = (λ i. put (length-map xs (shown f) i) (all_joined xs i))

-- ---- the description's parts

pub argument_appended : Appended argument
argument_appended = record { splits = splits }
  where
    splits : (a : Argument) (l : Lists) → argument.onto a l ≡ joined (argument.onto a nothing) l
    splits (Argument.value e) l = ap (put 0) ((component_appended type.Value).splits e l)
    splits (Argument.tag t) l = refl

pub call_appended : Appended call
call_appended =
    under_appended _ (λ c. (c.function, c.arguments))
    (then_appended (text_appended type.FnId (marked 36)) (many_appended (within_appended argument_appended type.UserFnArg)))

pub term_appended : Appended term
term_appended = record { splits = splits }
  where
    splits : (a : Term) (l : Lists) → term.onto a l ≡ joined (term.onto a nothing) l
    splits (Term.value e) l = ap (put 0) ((component_appended type.Value).splits e l)
    splits (Term.tag t) l = refl
    splits (Term.call c) l = ap (put 2) (call_appended.splits c l)

pub option_appended : Appended option
option_appended = many_appended term_appended

pub constraint_appended : Appended constraint
constraint_appended = many_appended (within_appended option_appended type.ConstraintOption)

pub value_edge_appended : Appended value_edge
value_edge_appended = under_appended _ _ (then_appended (integer_appended type.NodeId) (component_appended type.Value))

pub pattern_edge_appended : Appended pattern_edge
pattern_edge_appended =
    under_appended _ (λ e. (e.destination, (e.tag, e.constraints)))
    (then_appended (integer_appended type.NodeId)
    (then_appended (integer_appended type.Tag) (many_appended (within_appended constraint_appended type.Constraint))))

pub node_appended : Appended node
node_appended =
    under_appended _ (λ n. (n.id, (n.parent, (n.rule_names, (n.value_edges, (n.pattern_edges, n.signers))))))
    (then_appended (integer_appended type.NodeId)
    (then_appended (maybe_appended (integer_appended type.Parent))
    (then_appended (many_appended (text_appended type.Identifier (marked 35)))
    (then_appended (many_appended (within_appended value_edge_appended type.ValueEdge))
    (then_appended (many_appended (within_appended pattern_edge_appended type.PatternEdge)) (many_appended (integer_appended type.SignConstraint)))))))

pub symbol_appended : Appended symbol
symbol_appended = under_appended _ _ (then_appended (integer_appended type.Tag) (text_appended type.Identifier identifier))
