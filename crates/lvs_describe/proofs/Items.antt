-- The elements of one sort in a container, as parts of a description. Assumes nothing.
use mathlib.Core.Path.{◌≡◌, refl, sym, ap, ◌∙◌}
use mathlib.Core.Bool.{Bool, true, false}
use mathlib.Core.List.{List, [], ◌∷◌, map, map-append, map-map, map-id}
use mathlib.Core.Option.{none, some}
use Prim.Native.Nat.{ℕ, ◌≤◌, ◌<◌}
use native.Mathlib.Omega.{arith}
use borrow.Author.Tests.{eqb-true}
use lib.Dec.{eqb}
use lib.ListN.{length, length-map}
use Rattle.tlv.specs.Element.{Element, Cuts, done, broken, next, cuts}
use Rattle.tlv.specs.Lists.{when, first, first_or}
use Rattle.tlv.specs.Fields.{each_cut, inside_of, insides, number_of, integers, the_inside, the_integer}
use Rattle.lvs_spec.specs.Types as type
use Rattle.lvs_spec.specs.Leaves.{marked}
use Rattle.lvs_spec.specs.Model.{argument_of, term_from, option_of, constraint_of, value_edge_of, pattern_edge_of, node_of, symbol_of}
use Rattle.tlv.proofs.Iterated.{eqb_sym}
use Rattle.lvs_description.specs.Format.{Lists, Format, integer, text, many, within}
use Rattle.lvs_description.specs.Description.{argument, term, option, constraint, value_edge, pattern_edge, node, symbol}
use Rattle.lvs_describe.specs.Parts.{shown, row}
use Rattle.lvs_describe.specs.Sorts.{is_term, is_of, term_of, item_of, item_from, items_of, row_of}
use Rattle.lvs_describe.specs.declared.rows.Sort.{Sort}
use Rattle.lvs_describe.specs.declared.rows.Sort.TheVariants as sort
use Rattle.lvs_describe.proofs.Appended.{Appended, row_shown, integer_appended, text_appended, within_appended, argument_appended, term_appended}
use Rattle.lvs_describe.proofs.Appended.{option_appended, constraint_appended, value_edge_appended, pattern_edge_appended, node_appended, symbol_appended}

-- ---- elements, one by one

cuts_map : {A B : Type 0} (h : A → B) (f : Element → List A) (g : Element → List B) → ((e : Element) → g e ≡ map h (f e)) → (c : Cuts)
    → each_cut g c ≡ map h (each_cut f c)
unfolding each_cut
cuts_map h f g same done = refl
cuts_map h f g same broken = refl
cuts_map h f g same (next e c) = rw (same e, cuts_map h f g same c) (sym (map-append h (f e) (each_cut f c)))

-- where a sort has one type, its elements are the insides of that type
module _ {A : Type 0} (k : Sort) (t : ℕ) (f : Format A) (g : List ℕ → A) (types : (u : ℕ) → is_of k u ≡ eqb u t)
    (item : (u : ℕ) (b : List ℕ) → item_of k u b ≡ shown f (g b)) where
  one_item : (e : Element) → item_from k e ≡ map (λ b. shown f (g b)) (inside_of t e)
  unfolding item_from inside_of
  one_item e = rw (types e.type, eqb_sym e.type t) (go (eqb t e.type))
    where
      go : (p : Bool) → when p (item_of k e.type e.inside) ≡ map (λ b. shown f (g b)) (when p e.inside)
      go true = ap (λ (l : Lists). l ∷ []) (item e.type e.inside)
      go false = refl

  items_are : (b : List ℕ) → items_of k b ≡ map (shown f) (map g (insides t b))
  unfolding items_of insides
  items_are b = cuts_map (λ x. shown f (g x)) (inside_of t) (item_from k) one_item (cuts b) ∙ sym (map-map (shown f) g (each_cut (inside_of t) (cuts b)))

  row_is : Appended f → (b : List ℕ) → row_of k b ≡ shown (many f) (map g (insides t b))
  unfolding row_of
  row_is F b = ap row (items_are b) ∙ row_shown F (map g (insides t b))

-- ---- terms

module _ (b : List ℕ) where
  term_item : (t : ℕ) → item_from sort.Term (record { type = t; inside = b }) ≡ map (shown term) (term_from (record { type = t; inside = b }))
  unfolding item_from is_of is_term item_of term_of term_from
  term_item t = go (eqb t type.Value) refl (eqb t type.Tag) refl (eqb t type.UserFnCall) refl
    where
      go : (p : Bool) → eqb t type.Value ≡ p → (q : Bool) → eqb t type.Tag ≡ q → (r : Bool) → eqb t type.UserFnCall ≡ r
          → item_from sort.Term (record { type = t; inside = b }) ≡ map (shown term) (term_from (record { type = t; inside = b }))
      go true e q f r g = rw (eqb-true t type.Value e)
      go false e true f r g = rw (eqb-true t type.Tag f)
      go false e false f true g = rw (eqb-true t type.UserFnCall g)
      go false e false f false g =
          rw (e, f, g, eqb_sym type.Value t, eqb_sym type.Tag t, eqb_sym type.UserFnCall t, e, f, g)

pub terms_are : (b : List ℕ) → row_of sort.Term b ≡ shown option (option_of b)
unfolding row_of items_of option_of
terms_are b =
    ap row (cuts_map (shown term) term_from (item_from sort.Term) (λ e. term_item e.inside e.type) (cuts b)) ∙
    row_shown term_appended (each_cut term_from (cuts b))

-- ---- the rows of each container

-- the elements of sort k in a container are a row of what `of` reads in it
pub record Row {A : Type 0} (k : Sort) (f : Format A) (of : List ℕ → List A) : Type 0 where
  pub is : (b : List ℕ) → row_of k b ≡ shown (many f) (of b)

pub nodes_are : Row sort.Node (within type.Node node) (λ b. map node_of (insides type.Node b))
unfolding is_of item_of shown
nodes_are = record { is = row_is sort.Node type.Node _ node_of (λ u. refl) (λ u b. refl) (within_appended node_appended type.Node) }

pub symbols_are : Row sort.Symbol (within type.TagSymbol symbol) (λ b. map symbol_of (insides type.TagSymbol b))
unfolding is_of item_of shown
symbols_are = record { is = row_is sort.Symbol type.TagSymbol _ symbol_of (λ u. refl) (λ u b. refl) (within_appended symbol_appended type.TagSymbol) }

pub names_are : Row sort.RuleName (text type.Identifier (marked 35)) (insides type.Identifier)
unfolding is_of item_of
names_are =
    record {
      is = λ b. row_is sort.RuleName type.Identifier _ (λ x. x) (λ u. refl) (λ u x. refl) (text_appended type.Identifier (marked 35)) b ∙
          ap (shown (many (text type.Identifier (marked 35)))) (map-id (insides type.Identifier b));
    }

pub values_are : Row sort.ValueEdge (within type.ValueEdge value_edge) (λ b. map value_edge_of (insides type.ValueEdge b))
unfolding is_of item_of shown
values_are = record {
  is = row_is sort.ValueEdge type.ValueEdge _ value_edge_of (λ u. refl) (λ u b. refl)
      (within_appended value_edge_appended type.ValueEdge);
}

pub patterns_are : Row sort.PatternEdge (within type.PatternEdge pattern_edge) (λ b. map pattern_edge_of (insides type.PatternEdge b))
unfolding is_of item_of shown
patterns_are =
    record {
      is = row_is sort.PatternEdge type.PatternEdge _ pattern_edge_of (λ u. refl) (λ u b. refl)
          (within_appended pattern_edge_appended type.PatternEdge);
    }

pub signers_are : Row sort.Signer (integer type.SignConstraint) (integers type.SignConstraint)
unfolding is_of item_of integers
signers_are = record { is = row_is sort.Signer type.SignConstraint _ number_of (λ u. refl) (λ u b. refl) (integer_appended type.SignConstraint) }

pub constraints_are : Row sort.Constraint (within type.Constraint constraint) (λ b. map constraint_of (insides type.Constraint b))
unfolding is_of item_of shown
constraints_are =
    record {
      is = row_is sort.Constraint type.Constraint _ constraint_of (λ u. refl) (λ u b. refl)
          (within_appended constraint_appended type.Constraint);
    }

pub options_are : Row sort.ConstraintOption (within type.ConstraintOption option) constraint_of
unfolding is_of item_of shown constraint_of
options_are =
    record {
      is = row_is sort.ConstraintOption type.ConstraintOption _ option_of (λ u. refl) (λ u b. refl)
          (within_appended option_appended type.ConstraintOption);
    }

pub arguments_are : Row sort.Argument (within type.UserFnArg argument) (λ b. map argument_of (insides type.UserFnArg b))
unfolding is_of item_of shown
arguments_are = record { is = row_is sort.Argument type.UserFnArg _ argument_of (λ u. refl) (λ u b. refl) (within_appended argument_appended type.UserFnArg) }

-- ---- how many Parents there are, and the first

parents_counted : (b : List ℕ) → length (items_of sort.Parent b) ≡ length (insides type.Parent b)
unfolding is_of item_of
parents_counted b =
    ap length (items_are sort.Parent type.Parent (integer type.Parent) number_of (λ u. refl) (λ u x. refl) b) ∙
    length-map (map number_of (insides type.Parent b)) _ ∙ length-map (insides type.Parent b) number_of

module _ {n : ℕ} (b : List ℕ) (e : n ≡ length (items_of sort.Parent b)) where
  pub no_parent_lem : n < 1 → first (integers type.Parent b) ≡ none
  unfolding integers
  no_parent_lem h = go (insides type.Parent b) (e ∙ parents_counted b)
    where
      go : (xs : List (List ℕ)) → n ≡ length xs → first (map number_of xs) ≡ none
      go [] f = refl
      go (x ∷ xs) f = absurd (omega arith)

  pub a_parent : 1 ≤ n → first (integers type.Parent b) ≡ some (the_integer type.Parent b)
  unfolding integers the_integer the_inside
  a_parent h = go (insides type.Parent b) (e ∙ parents_counted b)
    where
      go : (xs : List (List ℕ)) → n ≡ length xs → first (map number_of xs) ≡ some (number_of (first_or [] xs))
      go [] f = absurd (omega arith)
      go (x ∷ xs) f = refl
