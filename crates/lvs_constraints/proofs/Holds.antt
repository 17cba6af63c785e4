-- Tags, arguments, calls, options and Constraints: what each reader answers. Assumes nothing.
use Prim.Native.Nat.{ℕ}
use mathlib.Core.Path.{◌≡◌, refl, sym, ap, subst, ◌∙◌}
use mathlib.Core.Bool.{Bool, true, false, not, ◌&&◌, ◌||◌, or-false}
use mathlib.Core.List.{List, [], ◌∷◌, map}
use mathlib.Core.Option.{Option, none, some}
use native.Mathlib.Omega.{arith}
use borrow.Author.Tests.{ne_eqb}
use denote.Ref.{Bor}
use lib.Dec.{eqb}
use lib.ListN.{length}
use Rattle.std.specs.declared.option.Option.{Option as Answer}
use Rattle.std.specs.declared.option.Option.TheVariants.{None, Some}
use Rattle.tlv.specs.Element.{Element}
use Rattle.tlv.proofs.Cuts.{cuts_end, element_nil}
use Rattle.tlv.specs.Lists.{any, all, is, bind, each, first, first_or}
use Rattle.tlv.proofs.Fields.{each_listed}
use Rattle.tlv.proofs.Iterated.{any_each, any_insides, all_insides}
use Rattle.lvs_spec.specs.Types as type
use Rattle.lvs_spec.specs.Model.{Argument, component_of, argument_from, argument_of, call_of, term_from, option_of, constraint_of, pattern_edge_of}
use Rattle.tlv.specs.Fields.{each_cut, elements, insides, the_inside, number_of}
use Rattle.lvs_spec.specs.Names.{same}
use Rattle.lvs_spec.specs.Verdict.{Function as Known, eq, eqType, isValidId, isValidYear, function_of}
use Rattle.lvs_spec.specs.Walk.{Binding, Bindings, bound, bound_to, argument_in, holds, call_holds, term_holds, option_holds, constraint_holds}
use Rattle.lvs_functions.specs.Functions.{function_read}
use Rattle.lvs_functions.specs.declared.Function.{Function}
use Rattle.lvs_functions.specs.declared.Function.TheVariants.{Eq, EqType, IsValidId, IsValidYear}
use Rattle.lvs_bindings.specs.Names.{text_from}
use Rattle.lvs_bindings.specs.Slots.{binding_at, bindings_of, slot_at}
use Rattle.lvs_bindings.specs.declared.Span.{Span}
use Rattle.lvs_bindings.proofs.Bound.{unbound, is_bound}
use Rattle.lvs_constraints.specs.Trials.{component_in, BoundTo}

-- ---- what a Tag is bound to

module _ (packet key : List ℕ) (slots : List (Answer Span)) (tag : ℕ) where
  pub tag_none : {r : Answer Span} → r ≡ slot_at slots tag → r ≡ None → BoundTo (bindings_of packet key slots) tag None
  unfolding argument_in
  tag_none read e = record { is = rw (unbound packet key slots tag read e) refl }

  pub tag_some : {r : Answer Span} {s : Span} → r ≡ slot_at slots tag → r ≡ Some s → (b : Bor (List ℕ)) → b.now ≡ text_from packet key s.start
      → BoundTo (bindings_of packet key slots) tag (Some b)
  unfolding argument_in binding_at
  tag_some read e b text = record { is = rw (is_bound packet key slots tag read e, text) refl }

-- whether it is an equal component
pub bound_same : (s : Bindings) (tag : ℕ) (c : Element) {r : Answer (Bor (List ℕ))} → BoundTo s tag r → bound_to s tag c ≡ is (λ a. same a c) (component_in r)
unfolding bound_to argument_in
bound_same s tag c {r = r} B = go (bound s tag) B.is
  where
    go : (o : Option Binding) → (bind o λ d. some d.component.content) ≡ component_in r
        → is (λ d. same d.component.content c) o ≡ is (λ a. same a c) (component_in r)
    go none e = ap (is (λ a. same a c)) e
    go (some d) e = ap (is (λ a. same a c)) e

-- ---- an argument

-- the first among those that an iteration has left
abbrev pub first_argument_in : List Element → Argument
first_argument_in es = first_or (Argument.tag 0) (each argument_from es)

pub argument_listed : (b : List ℕ) → argument_of b ≡ first_argument_in (elements b)
unfolding argument_of
argument_listed b = ap (first_or (Argument.tag 0)) (each_listed argument_from b)

module _ (e : Element) (es : List Element) where
  pub value_here : e.type ≡ type.Value → first_argument_in (e ∷ es) ≡ Argument.value (component_of e.inside)
  unfolding argument_from
  value_here q = rw q refl

  pub tag_here : e.type ≡ type.Tag → first_argument_in (e ∷ es) ≡ Argument.tag (number_of e.inside)
  unfolding argument_from
  tag_here q = rw q refl

  pub argument_later : (e.type ≡ type.Value → ⊥) → (e.type ≡ type.Tag → ⊥) → first_argument_in (e ∷ es) ≡ first_argument_in es
  unfolding argument_from
  argument_later v g = rw (ne_eqb type.Value e.type (λ q. v (sym q)), ne_eqb type.Tag e.type (λ q. g (sym q))) refl

-- an argument with neither counts as Tag 0, which is never bound
pub no_argument : (s : Bindings) → argument_in s (Argument.tag 0) ≡ none
unfolding argument_in bound
no_argument s = refl

-- the first argument of a call; where there is none, nothing
first_argument : (s : Bindings) (xs : List (List ℕ))
    → (bind (first (map (argument_in s) (map argument_of xs))) λ a. a) ≡ argument_in s (argument_of (first_or [] xs))
unfolding argument_in argument_of bound each_cut
first_argument s [] = rw (cuts_end [] element_nil)
first_argument s (x ∷ xs) = refl

-- ---- a call

-- what each case of the enum says of the function's name
abbrev Named : Option Known → Answer Function → Type 0
Named o (Some Eq) = o ≡ some eq
Named o (Some EqType) = o ≡ some eqType
Named o (Some IsValidId) = o ≡ some isValidId
Named o (Some IsValidYear) = o ≡ some isValidYear
Named o None = o ≡ none

named : (o : Option Known) → Named o (function_read o)
named none = refl
named (some eq) = refl
named (some eqType) = refl
named (some isValidId) = refl
named (some isValidYear) = refl

module _ (s : Bindings) (c : Element) (b : List ℕ) {name argument : List ℕ} {r : Answer Function}
    (name-is : name ≡ the_inside type.FnId b) (argument_is : argument ≡ the_inside type.UserFnArg b) (read : r ≡ function_read (function_of name)) where
  is_named : {a : Answer Function} → r ≡ a → Named (function_of (the_inside type.FnId b)) a
  is_named {a} e = subst (λ (x : List ℕ). Named (function_of x) a) name-is (subst (Named (function_of name)) (sym read ∙ e) (named (function_of name)))

  the_argument : (bind (first (map (argument_in s) (call_of b).arguments)) λ a. a) ≡ argument_in s (argument_of argument)
  unfolding call_of the_inside
  the_argument = first_argument s (insides type.UserFnArg b) ∙ ap (λ (x : List ℕ). argument_in s (argument_of x)) (sym argument_is)

  pub call_eq : r ≡ Some Eq → call_holds s c (call_of b) ≡ is (λ a. same a c) (argument_in s (argument_of argument))
  unfolding call_holds holds call_of
  call_eq e = rw (is_named e) (ap (is (λ a. same a c)) the_argument)

  pub call_eq_type : r ≡ Some EqType → call_holds s c (call_of b) ≡ is (λ a. eqb a.type c.type) (argument_in s (argument_of argument))
  unfolding call_holds holds call_of
  call_eq_type e = rw (is_named e) (ap (is (λ a. eqb a.type c.type)) the_argument)

  pub call_id : r ≡ Some IsValidId → call_holds s c (call_of b) ≡ eqb (length c.inside) 6
  unfolding call_holds holds call_of
  call_id e = rw (is_named e)

  pub call_year : r ≡ Some IsValidYear → call_holds s c (call_of b) ≡ eqb (length c.inside) 4
  unfolding call_holds holds call_of
  call_year e = rw (is_named e)

  pub call_unknown : r ≡ None → call_holds s c (call_of b) ≡ false
  unfolding call_holds call_of
  call_unknown e = rw (is_named e)

-- ---- a term

module _ (s : Bindings) (c : Element) (t : ℕ) (b : List ℕ) where
  abbrev holds_in : Bool
  holds_in = any (term_holds s c) (term_from (record { type = t; inside = b }))

  pub term_value : t ≡ type.Value → holds_in ≡ same (component_of b) c
  unfolding term_from term_holds
  term_value e = rw e (or-false _)

  pub term_tag : t ≡ type.Tag → holds_in ≡ bound_to s (number_of b) c
  unfolding term_from term_holds
  term_tag e = rw e (or-false _)

  pub term_call : t ≡ type.UserFnCall → holds_in ≡ call_holds s c (call_of b)
  unfolding term_from term_holds
  term_call e = rw e (or-false _)

  pub term_none : (t ≡ type.Value → ⊥) → (t ≡ type.Tag → ⊥) → (t ≡ type.UserFnCall → ⊥) → holds_in ≡ false
  unfolding term_from
  term_none v g f = rw (ne_eqb type.Value t (λ e. v (sym e)), ne_eqb type.Tag t (λ e. g (sym e)), ne_eqb type.UserFnCall t (λ e. f (sym e)))

-- ---- options and Constraints

module _ (s : Bindings) (c : Element) (b : List ℕ) where
  pub option_listed : option_holds s c (option_of b) ≡ any (λ e. any (term_holds s c) (term_from e)) (elements b)
  unfolding option_holds option_of
  option_listed = ap (any (term_holds s c)) (each_listed term_from b) ∙ any_each (term_holds s c) term_from (elements b)

  pub constraint_listed : constraint_holds s c (constraint_of b)
      ≡ any (λ e. eqb e.type type.ConstraintOption && option_holds s c (option_of e.inside)) (elements b)
  unfolding constraint_holds constraint_of
  constraint_listed = any_insides (option_holds s c) option_of type.ConstraintOption b

  pub constraints_listed : all (constraint_holds s c) (pattern_edge_of b).constraints
      ≡ all (λ e. not (eqb e.type type.Constraint) || constraint_holds s c (constraint_of e.inside)) (elements b)
  unfolding pattern_edge_of
  constraints_listed = all_insides (constraint_holds s c) constraint_of type.Constraint b

-- ---- an edge without Constraints

pub all_empty : (s : Bindings) (c : Element) (b : List ℕ) → length b ≡ 0 → all (constraint_holds s c) (pattern_edge_of b).constraints ≡ true
unfolding pattern_edge_of insides each_cut
all_empty s c [] e = rw (cuts_end [] element_nil)
all_empty s c (x ∷ xs) e = absurd (omega arith)
