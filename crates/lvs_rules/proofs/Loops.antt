-- One turn of each loop over a container's elements, and its end: what was found so far, with what is left, makes the whole. Assumes nothing.
use mathlib.Core.Path.{◌≡◌, refl, sym, ap, ◌∙◌}
use mathlib.Core.Logic.{◌⊎◌, inl, inr, ⊎_elim}
use mathlib.Core.Bool.{Bool, true, false, cond, ◌||◌}
use mathlib.Core.List.{List, [], ◌∷◌, ◌++◌, map, append_assoc, append-nil}
use Prim.Native.Nat.{ℕ, suc, ◌+◌, ◌≤◌, ◌<◌, min}
use native.Mathlib.Nat.{le_refl, min_comm, min-eq_right}
use native.Mathlib.Numerals.{add-one}
use native.Mathlib.Omega.{arith}
use borrow.Author.Tests.{eqb-true, eqb-false, eq-eqb, ne_eqb}
use lib.Dec.{eqb}
use lib.ListN.{length, take, set, length-append, length-map, length-take, length-set}
use lib.Seq.{take-suc-set}
use mathlib.Core.Option.{some}
use Rattle.std.specs.Prelude.{Option as Answer}
use Rattle.std.specs.List.{filter}
use Rattle.tlv.specs.Element.{Element}
use Rattle.tlv.specs.Fields.{inside_of, insides, elements, number_of, integers}
use Rattle.tlv.specs.Lists.{each, first, first_or}
use Rattle.tlv.proofs.Gathered.{each_most}
use Rattle.tlv.proofs.Fields.{each_listed, insides_listed}
use Rattle.lvs_spec.specs.Limits.{max_nodes}
use Rattle.lvs_spec.specs.Types as type
use Rattle.lvs_spec.specs.Model.{Argument, Term, component_of, call_of, argument_from, argument_of, term_from, option_of, node_of}
use Rattle.lvs_rules.specs.Lowest.{no_rule, least_of, parent_from, parent_index}
use Rattle.lvs_rules.specs.Faults.{Fault, earlier, lowest_from, no_fault, lowest}
use Rattle.lvs_rules.proofs.Least.{min_assoc, least_most}

-- ---- the insides of the elements of type k that are left

abbrev pub left_of : ℕ → List Element → List (List ℕ)
left_of k es = each (inside_of k) es

module _ (k : ℕ) (e : Element) (es : List Element) where
  pub left_found : e.type ≡ k → left_of k (e ∷ es) ≡ e.inside ∷ left_of k es
  unfolding inside_of
  left_found q = rw (eq-eqb k e.type (sym q))

  pub left_other : (e.type ≡ k → ⊥) → left_of k (e ∷ es) ≡ left_of k es
  unfolding inside_of
  left_other no' = rw (ne_eqb k e.type (λ q. no' (sym q)))

-- ---- how many

pub elements_most : (s : List ℕ) → length (elements s) ≤ length s
unfolding elements
elements_most s = each_most (λ e. e ∷ []) (λ e. le_refl 1) s

filtered : (k : ℕ) (es : List Element) → length (filter (λ e. eqb e.type k) es) ≡ length (left_of k es)
filtered k [] = refl
filtered k (e ∷ es) = go (eqb e.type k) refl (filtered k es)
  where
    go : (b : Bool) → eqb e.type k ≡ b → length (filter (λ e. eqb e.type k) es) ≡ length (left_of k es)
        → length (filter (λ e. eqb e.type k) (e ∷ es)) ≡ length (left_of k (e ∷ es))
    go true q h = rw (q, left_found k e es (eqb-true e.type k q)) (ap suc h)
    go false q h = rw (q, left_other k e es (eqb-false e.type k q)) h

pub of_type : (k : ℕ) (s : List ℕ) → length (filter (λ e. eqb e.type k) (elements s)) ≡ length (insides k s)
of_type k s = filtered k (elements s) ∙ ap length (sym (insides_listed k s))

-- ---- how many terms

abbrev IsTerm : ℕ → Type 0
IsTerm t = (t ≡ type.Value) ⊎ ((t ≡ type.Tag) ⊎ (t ≡ type.UserFnCall))

module _ {t : ℕ} (b : List ℕ) where
  a_term : IsTerm t → (x : Term) × (term_from (record { type = t; inside = b }) ≡ x ∷ [])
  unfolding term_from
  a_term h =
      ⊎_elim (λ e. (Term.value (component_of b), rw e)) (⊎_elim (λ e. (Term.tag (number_of b), rw e)) (λ e. (Term.call (call_of b), rw e))) h

  no_term : (IsTerm t → ⊥) → term_from (record { type = t; inside = b }) ≡ []
  unfolding term_from
  no_term no' =
      rw (
        ne_eqb type.Value t (λ e. no' (inl (sym e))),
        ne_eqb type.Tag t (λ e. no' (inr (inl (sym e)))),
        ne_eqb type.UserFnCall t (λ e. no' (inr (inr (sym e)))),
      )

abbrev pub is_term : Element → Bool
is_term e = eqb e.type type.Value || (eqb e.type type.Tag || eqb e.type type.UserFnCall)

-- an element is one term or none
one_term : (e : Element) → length (term_from e) ≡ cond (is_term e) 1 0
one_term e = go (eqb e.type type.Value) refl (eqb e.type type.Tag) refl (eqb e.type type.UserFnCall) refl
  where
    one : IsTerm e.type → length (term_from e) ≡ 1
    one h = let (x, q) = a_term e.inside h in rw q

    go : (a : Bool) → eqb e.type type.Value ≡ a → (b : Bool) → eqb e.type type.Tag ≡ b → (c : Bool) → eqb e.type type.UserFnCall ≡ c
        → length (term_from e) ≡ cond (a || (b || c)) 1 0
    go true p b q c r = one (inl (eqb-true _ _ p))
    go false p true q c r = one (inr (inl (eqb-true _ _ q)))
    go false p false q true r = one (inr (inr (eqb-true _ _ r)))
    go false p false q false r = rw (no_term {t = e.type} e.inside (⊎_elim (eqb-false _ _ p) (⊎_elim (eqb-false _ _ q) (eqb-false _ _ r))))

terms_filtered : (es : List Element) → length (filter is_term es) ≡ length (each term_from es)
terms_filtered [] = refl
terms_filtered (e ∷ es) = go (is_term e) refl (terms_filtered es)
  where
    go : (b : Bool) → is_term e ≡ b → length (filter is_term es) ≡ length (each term_from es)
        → length (filter is_term (e ∷ es)) ≡ length (term_from e ++ each term_from es)
    go true q h = rw (q, length-append (term_from e) (each term_from es), one_term e, q, h) (omega arith)
    go false q h = rw (q, length-append (term_from e) (each term_from es), one_term e, q, h) (omega arith)

pub terms_counted : (s : List ℕ) → length (filter is_term (elements s)) ≡ length (option_of s)
unfolding option_of
terms_counted s = terms_filtered (elements s) ∙ ap length (sym (each_listed term_from s))

-- ---- the lowest rule of the elements of type k

pub least_more : {A : Type 0} (g : A → ℕ) (xs : List A) (x : A) → least_of g (xs ++ (x ∷ [])) ≡ min (least_of g xs) (g x)
unfolding least_of
least_more g [] x = min_comm (g x) no_rule
least_more g (y ∷ ys) x = rw (least_more g ys x) (sym (min_assoc _ _ _))

-- of those that are left
abbrev pub least_left : (List ℕ → ℕ) → ℕ → List Element → ℕ
least_left f k es = least_of f (left_of k es)

-- m, with the lowest of these, is the lowest of all in s
pub record Swept (f : List ℕ → ℕ) (k : ℕ) (s : List ℕ) (es : List Element) (m : ℕ) : Type 0 where
  pub is : min m (least_left f k es) ≡ least_of f (insides k s)

module _ (f : List ℕ → ℕ) (k : ℕ) where
  pub none_swept : (s : List ℕ) → Swept f k s (elements s) no_rule
  none_swept s = record { is = min-eq_right (least_most f _) ∙ ap (least_of f) (sym (insides_listed k s)) }

  module _ {s : List ℕ} {e : Element} {es : List Element} {m : ℕ} (inv : Swept f k s (e ∷ es) m) where
    pub one_swept : {r n : ℕ} → e.type ≡ k → r ≡ f e.inside → n ≡ min m r → Swept f k s es n
    unfolding least_of
    one_swept q g h = record { is = rw (h, g) (min_assoc m (f e.inside) (least_left f k es) ∙ rw (left_found k e es q) at inv.is) }

    pub other_swept : (e.type ≡ k → ⊥) → Swept f k s es m
    other_swept no' = record { is = rw (left_other k e es no') at inv.is }

  pub all_swept : {s : List ℕ} {m : ℕ} → m ≤ no_rule → Swept f k s [] m → m ≡ least_of f (insides k s)
  unfolding least_of
  all_swept h inv = omega (arith, inv.is)

-- ---- the first argument

abbrev pub argument_left : List Element → Argument
argument_left es = first_or (Argument.tag 0) (each argument_from es)

pub argument_start : (s : List ℕ) → argument_left (elements s) ≡ argument_of s
unfolding argument_of
argument_start s = ap (first_or (Argument.tag 0)) (sym (each_listed argument_from s))

module _ (e : Element) (es : List Element) where
  pub value_first : e.type ≡ type.Value → argument_left (e ∷ es) ≡ Argument.value (component_of e.inside)
  unfolding argument_from
  value_first q = rw q

  pub tag_first : e.type ≡ type.Tag → argument_left (e ∷ es) ≡ Argument.tag (number_of e.inside)
  unfolding argument_from
  tag_first q = rw q

  pub no_argument : (e.type ≡ type.Value → ⊥) → (e.type ≡ type.Tag → ⊥) → argument_left (e ∷ es) ≡ argument_left es
  unfolding argument_from
  no_argument no_value no-tag = rw (ne_eqb type.Value e.type (λ q. no_value (sym q)), ne_eqb type.Tag e.type (λ q. no-tag (sym q)))

-- ---- the first Parent

abbrev pub parent_left : List Element → Answer ℕ
parent_left es = parent_from (first (map number_of (left_of type.Parent es)))

pub parent_start : (s : List ℕ) → parent_left (elements s) ≡ parent_index (node_of s)
unfolding parent_index node_of integers
parent_start s = ap (λ (xs : List (List ℕ)). parent_from (first (map number_of xs))) (sym (insides_listed type.Parent s))

module _ (e : Element) (es : List Element) where
  pub parent_first : e.type ≡ type.Parent → parent_left (e ∷ es) ≡ parent_from (some (number_of e.inside))
  parent_first q = ap (λ (xs : List (List ℕ)). parent_from (first (map number_of xs))) (left_found type.Parent e es q)

  pub no_parent : (e.type ≡ type.Parent → ⊥) → parent_left (e ∷ es) ≡ parent_left es
  no_parent no' = ap (λ (xs : List (List ℕ)). parent_from (first (map number_of xs))) (left_other type.Parent e es no')

-- ---- the Parents of all Nodes

abbrev parent_in : List ℕ → Answer ℕ
parent_in b = parent_index (node_of b)

abbrev pub nodes_left : List Element → List (List ℕ)
nodes_left es = left_of type.Node es

-- the first m entries are the Parents of the Nodes before these
pub record Filling (s : List ℕ) (es : List Element) (m : ℕ) (parents : List (Answer ℕ)) : Type 0 where
  pub size : length parents ≡ max_nodes
  pub room : m + length (nodes_left es) ≤ max_nodes
  pub words : take m parents ++ map parent_in (nodes_left es) ≡ map parent_in (insides type.Node s)

pub none_filled : (s : List ℕ) (parents : List (Answer ℕ)) → length parents ≡ max_nodes → length (insides type.Node s) ≤ max_nodes
    → Filling s (elements s) 0 parents
none_filled s parents e h =
    let l = insides_listed type.Node s in
    record { size = e; room = omega (arith, h, ap length l); words = ap (map parent_in) (sym l) }

module _ {s : List ℕ} {e : Element} {es : List Element} {m : ℕ} {parents : List (Answer ℕ)} (inv : Filling s (e ∷ es) m parents) where
  pub free : e.type ≡ type.Node → m < max_nodes
  free q = omega (arith, inv.room, ap length (left_found type.Node e es q))

  pub parent_filled : {r : Answer ℕ} → e.type ≡ type.Node → r ≡ parent_in e.inside → Filling s es (m + 1) (set parents m r)
  parent_filled {r} q f =
      let l = left_found type.Node e es q in
      let w = rw l at inv.words in
      let z = inv.size in
      record {
        size = length-set parents m r ∙ z;
        room = omega (arith, inv.room, ap length l);
        words =
            rw (add-one m, take-suc-set parents m r (omega (arith, free q)), f)
            (append_assoc (take m parents) (parent_in e.inside ∷ []) (map parent_in (nodes_left es)) ∙ w);
      }

  pub parent_passed : (e.type ≡ type.Node → ⊥) → Filling s es m parents
  parent_passed no' =
      let l = left_other type.Node e es no' in
      record { size = inv.size; room = omega (arith, inv.room, ap length l); words = rw (← l) inv.words }

pub all_filled : {s : List ℕ} {m : ℕ} {parents : List (Answer ℕ)} → Filling s [] m parents
    → take (length (insides type.Node s)) parents ≡ map parent_in (insides type.Node s)
all_filled {s} {m} {parents} inv =
    let e : take m parents ≡ map parent_in (insides type.Node s) = sym (append-nil (take m parents)) ∙ inv.words in
    let l : length (insides type.Node s) ≡ length (map parent_in (insides type.Node s)) = sym (length-map (insides type.Node s) parent_in) in
    let k : length (insides type.Node s) ≡ m = omega (arith, l, ap length e, length-take m parents, inv.size, inv.room) in
    rw k e

-- ---- the lowest fault of all Nodes

-- `fault` is that of the Nodes before these, of which the next has index i; f i b is the lowest rule that the Node b at index i breaks
pub record Scanned (f : ℕ → List ℕ → ℕ) (s : List ℕ) (es : List Element) (i : ℕ) (fault : Fault) : Type 0 where
  pub count : i + length (nodes_left es) ≡ length (insides type.Node s)
  pub rest : lowest_from f fault i (nodes_left es) ≡ lowest f (insides type.Node s)

module _ (f : ℕ → List ℕ → ℕ) where
  pub none_scanned : (s : List ℕ) → Scanned f s (elements s) 0 no_fault
  unfolding lowest
  none_scanned s =
      let l = insides_listed type.Node s in
      record { count = omega (arith, ap length l); rest = ap (lowest_from f no_fault 0) (sym l) }

  module _ {s : List ℕ} {e : Element} {es : List Element} {i : ℕ} {fault : Fault} (inv : Scanned f s (e ∷ es) i fault) where
    pub node_index : e.type ≡ type.Node → i < length (insides type.Node s)
    node_index q = omega (arith, inv.count, ap length (left_found type.Node e es q))

    pub node_scanned : {r : ℕ} {fault' : Fault} → e.type ≡ type.Node → r ≡ f i e.inside → fault' ≡ earlier fault (record { rule = r; node = i })
        → Scanned f s es (i + 1) fault'
    unfolding lowest_from
    node_scanned q g h =
        let l = left_found type.Node e es q in
        record { count = omega (arith, inv.count, ap length l); rest = rw (h, g, add-one i) (rw l at inv.rest) }

    pub node_passed : (e.type ≡ type.Node → ⊥) → Scanned f s es i fault
    node_passed no' =
        let l = left_other type.Node e es no' in
        record { count = omega (arith, inv.count, ap length l); rest = rw (← l) inv.rest }

  pub all_scanned : {s : List ℕ} {i : ℕ} {fault : Fault} → Scanned f s [] i fault → fault ≡ lowest f (insides type.Node s)
  unfolding lowest_from
  all_scanned inv = inv.rest
