-- The lowest rule that an element breaks, from its own fields and from the elements that it holds. Assumes nothing.
use mathlib.Core.Path.{◌≡◌, refl, sym, ap, ◌∙◌}
use mathlib.Core.Bool.{Bool, true, false, not}
use mathlib.Core.List.{List, ◌++◌, map}
use Rattle.std.specs.Prelude.{Option as Answer, Some, None, unwrap_or}
use Rattle.std.specs.Bool.{then_some}
use Rattle.lvs_spec.specs.Refusals.{rule_number}
use Rattle.lvs_spec.specs.declared.refusal.Rule.{Rule}
use Rattle.lvs_spec.specs.declared.refusal.Rule.TheVariants as rule
use Rattle.lvs_spec.proofs.Lists.{clash}
use Rattle.lvs_rules.specs.Broken.{number}
use mathlib.Core.Option.{Option, none, some}
use Prim.Native.Nat.{ℕ, ◌≤◌, min}
use native.Mathlib.Omega.{arith}
use native.Mathlib.Nat.{min-eq_right}
use lib.Dec.{eqb}
use lib.ListN.{length, length-map}
use Rattle.tlv.specs.Element.{Element, Cuts, done, broken as torn, next, cuts}
use Rattle.tlv.specs.Lists.{when}
use Rattle.lvs_spec.specs.Types as type
use Rattle.lvs_spec.specs.Model.{Term, component_of, argument_of, call_of, term_from, option_of, constraint_of, pattern_edge_of, node_of}
use Rattle.tlv.specs.Fields.{each_cut, inside_of, insides, number_of, integers, the_integer, the_inside}
use Rattle.lvs_spec.specs.Verdict.{destinations, Function as Known, eq, eqType, isValidId, isValidYear, function_of, arity, bad_call}
use Rattle.lvs_functions.specs.Functions.{known_of, function_read}
use Rattle.lvs_functions.specs.declared.Function.{Function}
use Rattle.lvs_rules.specs.Lowest.{no_rule, broken, least_of, tag_rule, argument_rule, arguments_rule, call_rule, term_rule, terms_rule}
use Rattle.lvs_rules.specs.Lowest.{option_rule, constraint_rule, named_rule, own_rule, root_rule, destinations_rule, pattern_edge_rule, node_rule}
use Rattle.lvs_rules.proofs.Least.{min_pairs, least_most, least_append, least_map}

-- ---- a rule that a test says is broken

pub number_broken : (b : Bool) (r : Rule) → number (then_some b r) ≡ broken (rule_number r) b
unfolding broken
number_broken true r = refl
number_broken false r = refl

rule_most : (r : Rule) → rule_number r ≤ no_rule
rule_most rule.ManyNodes = omega arith
rule_most rule.TagRange = omega arith
rule_most rule.OwnId = omega arith
rule_most rule.StartId = omega arith
rule_most rule.Destination = omega arith
rule_most rule.Signer = omega arith
rule_most rule.OneTerm = omega arith
rule_most rule.Parent = omega arith
rule_most rule.Call = omega arith
rule_most rule.Root = omega arith
rule_most rule.Parallel = omega arith

pub number_most : (o : Answer Rule) → number o ≤ no_rule
number_most None = omega arith
number_most (Some r) = rule_most r

-- ---- a call's function and number of arguments

some_injective : {A : Type 0} {x y : A} → Some x ≡ Some y → x ≡ y
some_injective {A} {x} h = ap (λ (o : Answer A). unwrap_or o x) h

-- as the code reads a function's name
pub unknown_call : (b : List ℕ) {name : List ℕ} → name ≡ the_inside type.FnId b → function_read (function_of name) ≡ None → 12 ≡ arguments_rule (call_of b)
unfolding arguments_rule bad_call call_of broken
unknown_call b {name} p h = go (function_of name) refl h
  where
    go : (o : Option Known) → function_of name ≡ o → function_read o ≡ None → 12 ≡ arguments_rule (call_of b)
    go none q h = rw (← p, q)
    go (some eq) q h = clash (cc)
    go (some eqType) q h = clash (cc)
    go (some isValidId) q h = clash (cc)
    go (some isValidYear) q h = clash (cc)

pub known_call : (b : List ℕ) {name : List ℕ} {n : ℕ} {f : Function} → name ≡ the_inside type.FnId b → n ≡ length (insides type.UserFnArg b)
    → function_read (function_of name) ≡ Some f → broken 12 (not (eqb n (arity (known_of f)))) ≡ arguments_rule (call_of b)
unfolding arguments_rule bad_call call_of
known_call b {name} {n} {f} p c h = go (function_of name) refl h
  where
    count : length (map argument_of (insides type.UserFnArg b)) ≡ n
    count = length-map (insides type.UserFnArg b) argument_of ∙ sym c

    by : (k : Known) → function_of name ≡ some k → known_of f ≡ k → broken 12 (not (eqb n (arity (known_of f)))) ≡ arguments_rule (call_of b)
    by k q e = rw (← p, q, count, e)

    go : (o : Option Known) → function_of name ≡ o → function_read o ≡ Some f → broken 12 (not (eqb n (arity (known_of f)))) ≡ arguments_rule (call_of b)
    go none q h = clash (cc)
    go (some eq) q h = by eq q (ap known_of (sym (some_injective h)))
    go (some eqType) q h = by eqType q (ap known_of (sym (some_injective h)))
    go (some isValidId) q h = by isValidId q (ap known_of (sym (some_injective h)))
    go (some isValidYear) q h = by isValidYear q (ap known_of (sym (some_injective h)))

-- ---- an option's Tags and calls

abbrev pub tag_in : List ℕ → ℕ
tag_in x = tag_rule (number_of x)

abbrev pub call_in : List ℕ → ℕ
call_in x = call_rule (call_of x)

module _ (x : List ℕ) where
  value_part : (a : Bool) → least_of term_rule (when a (Term.value (component_of x))) ≡ no_rule
  unfolding least_of term_rule
  value_part true = refl
  value_part false = refl

  tag_part : (a : Bool) → least_of term_rule (when a (Term.tag (number_of x))) ≡ least_of tag_in (when a x)
  unfolding least_of term_rule
  tag_part true = refl
  tag_part false = refl

  call_part : (a : Bool) → least_of term_rule (when a (Term.call (call_of x))) ≡ least_of call_in (when a x)
  unfolding least_of term_rule
  call_part true = refl
  call_part false = refl

term_parts : (e : Element) → least_of term_rule (term_from e) ≡ min (least_of tag_in (inside_of type.Tag e)) (least_of call_in (inside_of type.UserFnCall e))
unfolding term_from inside_of
term_parts e =
    let x = e.inside in
    let values = when (eqb type.Value e.type) (Term.value (component_of x)) in
    let tags = when (eqb type.Tag e.type) (Term.tag (number_of x)) in
    let calls = when (eqb type.UserFnCall e.type) (Term.call (call_of x)) in
    least_append term_rule (values ++ tags) calls ∙
    rw (least_append term_rule values tags, value_part x (eqb type.Value e.type), min-eq_right (least_most term_rule tags))
    (rw (tag_part x (eqb type.Tag e.type), call_part x (eqb type.UserFnCall e.type)))

terms_parts : (c : Cuts)
    → least_of term_rule (each_cut term_from c) ≡ min (least_of tag_in (each_cut (inside_of type.Tag) c))
    (least_of call_in (each_cut (inside_of type.UserFnCall) c))
unfolding each_cut least_of
terms_parts done = refl
terms_parts torn = refl
terms_parts (next e c) =
    least_append term_rule (term_from e) (each_cut term_from c) ∙
    rw (
      term_parts e,
      terms_parts c,
      least_append tag_in (inside_of type.Tag e) (each_cut (inside_of type.Tag) c),
      least_append call_in (inside_of type.UserFnCall e) (each_cut (inside_of type.UserFnCall) c),
    )
    (min_pairs _ _ _ _)

option_terms : (b : List ℕ) → least_of term_rule (option_of b) ≡ min (least_of tag_in (insides type.Tag b)) (least_of call_in (insides type.UserFnCall b))
unfolding option_of insides
option_terms b = terms_parts (cuts b)

-- ---- each sort

-- what the elements of a type in b break at least, where f says it of one
abbrev pub swept : (List ℕ → ℕ) → ℕ → List ℕ → ℕ
swept f k b = least_of f (insides k b)

-- each container by those in it
module _ (b : List ℕ) where
  pub call_is : min (arguments_rule (call_of b)) (swept (λ x. argument_rule (argument_of x)) type.UserFnArg b) ≡ call_rule (call_of b)
  unfolding call_rule call_of
  call_is = rw (least_map argument_rule argument_of (insides type.UserFnArg b))

  pub option_is : min (terms_rule (option_of b)) (min (swept tag_in type.Tag b) (swept call_in type.UserFnCall b)) ≡ option_rule (option_of b)
  unfolding option_rule
  option_is = rw (option_terms b)

  pub constraint_is : swept (λ x. option_rule (option_of x)) type.ConstraintOption b ≡ constraint_rule (constraint_of b)
  unfolding constraint_rule constraint_of
  constraint_is = sym (least_map option_rule option_of (insides type.ConstraintOption b))

  pub pattern_edge_is : min (tag_rule (the_integer type.Tag b)) (swept (λ x. constraint_rule (constraint_of x)) type.Constraint b)
      ≡ pattern_edge_rule (pattern_edge_of b)
  unfolding pattern_edge_rule pattern_edge_of
  pattern_edge_is = rw (least_map constraint_rule constraint_of (insides type.Constraint b))

  pub node_is : (start i : ℕ) (parents : List (Answer ℕ))
      → min (min (own_rule i (node_of b)) (root_rule parents i start)) (min (destinations_rule parents i (destinations (node_of b)))
      (min (swept (λ x. pattern_edge_rule (pattern_edge_of x)) type.PatternEdge b)
      (swept (λ x. named_rule 9 (length parents) (number_of x)) type.SignConstraint b)))
      ≡ node_rule start parents i (node_of b)
  unfolding node_rule node_of integers
  node_is start i parents =
      rw (
        least_map pattern_edge_rule pattern_edge_of (insides type.PatternEdge b),
        least_map (named_rule 9 (length parents)) number_of (insides type.SignConstraint b),
      )
