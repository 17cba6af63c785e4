-- One pass over the Nodes that keeps the lowest rule broken and the first Node that breaks it finds what a pass for each rule of the table would.
-- By induction over the table. Assumes nothing.
use mathlib.Core.Path.{◌≡◌, refl, sym, ap, ◌∙◌}
use mathlib.Core.Bool.{Bool, true, false, cond, ◌||◌, not, or-false}
use mathlib.Core.List.{List, [], ◌∷◌, map, cons≢nil}
use mathlib.Core.Option.{Option, none, some}
use Prim.Native.Nat.{ℕ, zero, suc, ◌≤◌, ◌<◌}
use native.Mathlib.Nat.{le_refl}
use native.Mathlib.Omega.{arith}
use borrow.Author.Tests.{lt-ltb, le-ltb, ne_eqb, ltb-true, ltb-false}
use lib.Dec.{ltb, eqb}
use lib.ListN.{length, drop, get_elem?}
use Rattle.tlv.proofs.Gathered.{any_append}
use Rattle.tlv.specs.Lists.{any, each, first}
use Rattle.lvs_spec.specs.Model.{Model, Node, Symbol}
use Rattle.lvs_spec.specs.Verdict.{Test, whole, some_tag, some_node, some_destination, some_signer, some_option, some_call, Verdict, refused, fault, decide}
use Rattle.lvs_spec.specs.Verdict.{somewhere, first_fault, tags, node_tags, destinations, options, calls}
use Rattle.lvs_rules.specs.Lowest.{no_rule}
use Rattle.lvs_rules.specs.Faults.{Fault, earlier, lowest_from, no_fault, lowest, named, verdict_of}
use Rattle.lvs_rules.proofs.Rows.{asks, Row, Fits, no_row, row, first_row, row_least, fits_most, fails_at, fails_outside}

-- ---- one pass over the Nodes, and a pass for each rule

-- rule r at the Node that is there, or a later rule
abbrev at : ℕ → Option ℕ → Fault → Fault
at r none later = later
at r (some j) later = record { rule = r; node = j }

-- the first rule that a Node breaks, and the first Node that breaks it; the Nodes' indices start with i
abbrev first_there : ℕ → List Node → List Row → Fault
first_there i ns [] = record { rule = no_rule; node = i }
first_there i ns (r ∷ rs) = at r.0 (first_fault (fails_at (asks r.1)) i ns) (first_there i ns rs)

there_most : (i : ℕ) (ns : List Node) {k : ℕ} {rs : List Row} → Fits k rs → (first_there i ns rs).rule ≤ no_rule
there_most i ns (no_row h) = le_refl no_rule
there_most i ns (row {k} {r} {t} {rs} h e hs) =
    go (first_fault (fails_at (asks t)) i ns) (first_there i ns rs) (there_most i ns hs) (fits_most hs)
  where
    go : (o : Option ℕ) (later : Fault) → later.rule ≤ no_rule → r < no_rule → (at r o later).rule ≤ no_rule
    go none later l top = l
    go (some j) later l top = omega arith

there_least : (i : ℕ) (ns : List Node) {k : ℕ} {rs : List Row} → Fits k rs → k ≤ (first_there i ns rs).rule
there_least i ns (no_row h) = h
there_least i ns (row {k} {r} {t} {rs} h e hs) = go (first_fault (fails_at (asks t)) i ns) (first_there i ns rs) (there_least i ns hs)
  where
    go : (o : Option ℕ) (later : Fault) → r < later.rule → k ≤ (at r o later).rule
    go none later l = omega arith
    go (some j) later l = h

no_nodes : (i : ℕ) {k : ℕ} {rs : List Row} → Fits k rs → first_there i [] rs ≡ record { rule = no_rule; node = i }
unfolding first_fault
no_nodes i (no_row h) = refl
no_nodes i (row h e hs) = no_nodes i hs

-- the Node at i breaks rule r if b, and o is the first Node after it that does; x is the first later rule that it breaks
rule_more : (r i : ℕ) (b : Bool) (o : Option ℕ) (x : ℕ) (after all : Fault) → r < x → r < after.rule → earlier (record { rule = x; node = i }) after ≡ all
    → earlier (record { rule = cond b r x; node = i }) (at r o after) ≡ at r (elim b [ true ↦ some i | false ↦ o ]) all
unfolding earlier
rule_more r i true none x after all l l' h = rw (le-ltb after.rule r (omega arith))
rule_more r i true (some j) x after all l l' h = rw (le-ltb r r (le_refl r))
rule_more r i false (some j) x after all l l' h = rw (lt-ltb r x l)
rule_more r i false none x after all l l' h = h

node_more : (i : ℕ) (n : Node) (ns : List Node) {k : ℕ} {rs : List Row} → Fits k rs
    → earlier (record { rule = first_row (λ a. fails_at a i n) rs; node = i }) (first_there (suc i) ns rs) ≡ first_there i (n ∷ ns) rs
unfolding earlier first_fault
node_more i n ns (no_row h) = refl
node_more i n ns (row {k} {r} {t} {rs} h e hs) =
    rule_more r i (fails_at (asks t) i n) (first_fault (fails_at (asks t)) (suc i) ns) _ _ _
    (row_least (λ a. fails_at a i n) hs)
    (there_least (suc i) ns hs)
    (node_more i n ns hs)

-- ---- the pass keeps the earlier of two faults

earlier_assoc : (a b c : Fault) → earlier (earlier a b) c ≡ earlier a (earlier b c)
unfolding earlier
earlier_assoc a b c = go (ltb b.rule a.rule) refl (ltb c.rule b.rule) refl
  where
    go : (p : Bool) → ltb b.rule a.rule ≡ p → (q : Bool) → ltb c.rule b.rule ≡ q → earlier (cond p b a) c ≡ earlier a (cond q c b)
    go true p true q =
        let h = ltb-true b.rule a.rule p in
        let k = ltb-true c.rule b.rule q in
        rw (q, lt-ltb c.rule a.rule (omega arith))
    go true p false q = rw (q, p)
    go false p true q = refl
    go false p false q =
        let h = ltb-false b.rule a.rule p in
        let k = ltb-false c.rule b.rule q in
        rw (p, le-ltb c.rule a.rule (omega arith))

earlier_most : (a b : Fault) → a.rule ≤ no_rule → (earlier a b).rule ≤ no_rule
unfolding earlier
earlier_most a b h = go (ltb b.rule a.rule) refl
  where
    go : (t : Bool) → ltb b.rule a.rule ≡ t → (cond t b a).rule ≤ no_rule
    go true q = let l = ltb-true b.rule a.rule q in omega arith
    go false q = h

earlier_none : (a : Fault) (i : ℕ) → a.rule ≤ no_rule → earlier a (record { rule = no_rule; node = i }) ≡ a
unfolding earlier
earlier_none a i h = rw (le-ltb no_rule a.rule h)

one_pass : {k : ℕ} {rs : List Row} → Fits k rs → (a : Fault) → a.rule ≤ no_rule → (i : ℕ) (ns : List Node)
    → lowest_from (λ i n. first_row (λ a. fails_at a i n) rs) a i ns ≡ earlier a (first_there i ns rs)
unfolding lowest_from
one_pass {rs = rs} fits a h i [] = sym (rw (no_nodes i fits) (earlier_none a i h))
one_pass {rs = rs} fits a h i (n ∷ ns) =
    let first : Fault = record { rule = first_row (λ a. fails_at a i n) rs; node = i } in
    one_pass fits (earlier a first) (earlier_most a first h) (suc i) ns ∙ earlier_assoc a _ _ ∙ ap (earlier a) (node_more i n ns fits)

-- ---- a rule's fault, from what its test finds in the Nodes and outside of them

any_never : {A : Type 0} (xs : List A) → any (λ x. false) xs ≡ false
any_never [] = refl
any_never (x ∷ xs) = any_never xs

fault_same : {f g : ℕ → Node → Bool} → ((i : ℕ) (n : Node) → f i n ≡ g i n) → (i : ℕ) (ns : List Node) → first_fault f i ns ≡ first_fault g i ns
unfolding first_fault
fault_same h i [] = refl
fault_same h i (n ∷ ns) = λ t. elim (h i n t) [ true ↦ some i | false ↦ fault_same h (suc i) ns t ]

fault_never : (i : ℕ) (ns : List Node) → first_fault (λ i n. false) i ns ≡ none
unfolding first_fault
fault_never i [] = refl
fault_never i (n ∷ ns) = fault_never (suc i) ns

-- the index that a fault names, where o is the first Node at fault and `outside` says whether there is a fault outside of the Nodes
abbrev merged : Bool → Option ℕ → Bool → Option ℕ
merged names none outside = somewhere outside
merged names (some j) outside = some (cond names j 0)

named_alone : (o : Option ℕ) → o ≡ merged true o false
named_alone none = refl
named_alone (some j) = refl

any_map : {A B : Type 0} (f : B → Bool) (g : A → B) (xs : List A) → any f (map g xs) ≡ any (λ x. f (g x)) xs
any_map f g [] = refl
any_map f g (x ∷ xs) = rw (any_map f g xs)

tags_merged : (f : ℕ → Bool) (outside : Bool) (i : ℕ) (ns : List Node)
    → somewhere (any f (each node_tags ns) || outside) ≡ merged false (first_fault (λ i n. any f (node_tags n)) i ns) outside
unfolding first_fault
tags_merged f outside i [] = refl
tags_merged f outside i (n ∷ ns) = rw (any_append f (node_tags n) (each node_tags ns)) (go (any f (node_tags n)) (tags_merged f outside (suc i) ns))
  where
    go : (b : Bool) → somewhere (any f (each node_tags ns) || outside) ≡ merged false (first_fault (λ i n. any f (node_tags n)) (suc i) ns) outside
        → somewhere ((b || any f (each node_tags ns)) || outside) ≡
        merged false (elim b [ true ↦ some i | false ↦ first_fault (λ i n. any f (node_tags n)) (suc i) ns ]) outside
    go true h = refl
    go false h = h

other_way : (b : Bool) (j : ℕ) → cond (not b) j 0 ≡ cond b 0 j
other_way true j = refl
other_way false j = refl

broken_least : (r : ℕ) (b : Bool) (x : ℕ) → r < x → r ≤ cond b r x
broken_least r true x l = le_refl r
broken_least r false x l = omega arith

module _ (m : Model) where
  abbrev in_nodes : Test → Option ℕ
  in_nodes t = first_fault (fails_at (asks t)) 0 m.nodes

  -- a test of one kind of part finds nothing in the others
  found_alone : (t : Test) (f : ℕ → Node → Bool) → ((i : ℕ) (n : Node) → fails_at (asks t) i n ≡ f i n) → in_nodes t ≡ first_fault f 0 m.nodes
  found_alone t f h = fault_same h 0 m.nodes

  in_node : (t : Test) (f : ℕ → Node → Bool) → ((i : ℕ) (n : Node) → fails_at (asks t) i n ≡ f i n)
      → first_fault f 0 m.nodes ≡ merged true (in_nodes t) (any (λ (s : Symbol). false) m.symbols)
  in_node t f h = rw (any_never m.symbols, found_alone t f h) (named_alone (first_fault f 0 m.nodes))

  fault_parts : (t : Test) → fault m t ≡ merged (asks t).names (in_nodes t) (fails_outside m (asks t))
  unfolding fault tags
  fault_parts (whole b) =
      let nowhere : in_nodes (whole b) ≡ none = found_alone (whole b) (λ i n. false) (λ i n. simp any_never) ∙ fault_never 0 m.nodes in
      rw (nowhere, any_never m.symbols, or-false b)
  fault_parts (some_tag f) =
      let outside = any f (map (λ (s : Symbol). s.tag) m.symbols) in
      rw (
        any_append f (each node_tags m.nodes) (map (λ (s : Symbol). s.tag) m.symbols),
        found_alone (some_tag f) (λ i n. any f (node_tags n)) (λ i n. simp (any_never, or-false)),
        ← any_map f (λ (s : Symbol). s.tag) m.symbols,
      )
      (tags_merged f outside 0 m.nodes)
  fault_parts (some_node f) = in_node (some_node f) f (λ i n. simp any_never (or-false (f i n)))
  fault_parts (some_destination f) = in_node (some_destination f) (λ i n. any (f i) (destinations n)) (λ i n. simp (any_never, or-false))
  fault_parts (some_signer f) = in_node (some_signer f) (λ i n. any f n.signers) (λ i n. simp (any_never, or-false))
  fault_parts (some_option f) = in_node (some_option f) (λ i n. any f (options n)) (λ i n. simp (any_never, or-false))
  fault_parts (some_call f) = in_node (some_call f) (λ i n. any f (calls n)) (λ i n. simp any_never)

-- ---- the first rule that is broken decides

-- the verdict by a rule with this fault, where v is the one by the rules after it
abbrev or_else : ℕ → Option ℕ → Verdict → Verdict
or_else r o v = elim o [ none ↦ v | some i ↦ refused r i ]

-- o is the first Node that breaks rule r; b says whether it is broken outside of the Nodes
rule_decides : (r : ℕ) (o : Option ℕ) (b : Bool) (later : Fault) (x count : ℕ) {v : Verdict} → r < later.rule → r < x → r < no_rule
    → v ≡ verdict_of later x count → or_else r (merged (not (eqb r 5)) o b) v ≡ verdict_of (at r o later) (cond b r x) count
unfolding verdict_of named
rule_decides r (some j) b later x count l l' top h =
    rw (le-ltb (cond b r x) r (broken_least r b x l'), ne_eqb r no_rule (λ q. omega arith), other_way (eqb r 5) j)
rule_decides r none true later x count l l' top h = rw (lt-ltb r later.rule l)
rule_decides r none false later x count l l' top h = h

decided : (m : Model) {k : ℕ} {rs : List Row} → Fits k rs
    → decide m rs ≡ verdict_of (first_there 0 m.nodes rs) (first_row (fails_outside m) rs) (length m.nodes)
unfolding decide verdict_of
decided m (no_row h) = refl
decided m (row {k} {r} {t} {rs} h e hs) =
    let q : fault m t ≡ merged (not (eqb r 5)) (in_nodes m t) (fails_outside m (asks t)) = rw (← e) (fault_parts m t) in
    ap (λ (o : Option ℕ). or_else r o (decide m rs)) q ∙
    rule_decides r (in_nodes m t) (fails_outside m (asks t)) _ _ _ (there_least 0 m.nodes hs) (row_least (fails_outside m) hs) (fits_most hs) (decided m hs)

-- the pass starts with no fault
from_none : (x : Fault) (outside count : ℕ) → x.rule ≤ no_rule → verdict_of x outside count ≡ verdict_of (earlier no_fault x) outside count
unfolding verdict_of earlier named
from_none x outside count h = go (ltb x.rule no_rule) refl
  where
    go : (b : Bool) → ltb x.rule no_rule ≡ b → verdict_of x outside count ≡ verdict_of (cond b x no_fault) outside count
    go true q = refl
    go false q =
        let l : no_rule ≤ x.rule = ltb-false x.rule no_rule q in
        let e : x.rule ≡ no_rule = omega arith in
        rw e

-- what is left of a list, from an index on
left_from : {A : Type 0} (xs : List A) (i : ℕ) {x : A} {rest : List A} → drop i xs ≡ x ∷ rest → (get_elem? xs i ≡ some x) × (drop (suc i) xs ≡ rest)
left_from [] zero h = absurd (cons≢nil (sym h))
left_from [] (suc i) h = absurd (cons≢nil (sym h))
left_from (y ∷ ys) zero h = (ap first h, ap (drop 1) h)
left_from (y ∷ ys) (suc i) h = left_from ys i h

-- two passes that agree on each Node at its index
module _ {f g : ℕ → Node → ℕ} (all : List Node) (same : (i : ℕ) (n : Node) → get_elem? all i ≡ some n → f i n ≡ g i n) where
  pass_same : (a : Fault) (i : ℕ) (ns : List Node) → drop i all ≡ ns → lowest_from f a i ns ≡ lowest_from g a i ns
  unfolding lowest_from
  pass_same a i [] h = refl
  pass_same a i (n ∷ ns) h =
      let (there, later) = left_from all i h in
      rw (same i n there) (pass_same (earlier a (record { rule = g i n; node = i })) (suc i) ns later)

-- the verdict by a table, from the lowest rule that each Node breaks and the lowest that is broken outside of the Nodes
pub decided_by : (m : Model) {k : ℕ} {rs : List Row} → Fits k rs → (f : ℕ → Node → ℕ) (outside : ℕ)
    → ((i : ℕ) (n : Node) → get_elem? m.nodes i ≡ some n → f i n ≡ first_row (λ a. fails_at a i n) rs) → outside ≡ first_row (fails_outside m) rs
    → decide m rs ≡ verdict_of (lowest f m.nodes) outside (length m.nodes)
unfolding lowest
decided_by m {rs = rs} fits f outside same e =
    let ns = m.nodes in
    rw (e, pass_same ns same no_fault 0 ns refl, one_pass fits no_fault (le_refl no_rule) 0 ns)
    (decided m fits ∙ from_none (first_there 0 ns rs) (first_row (fails_outside m) rs) (length ns) (there_most 0 ns fits))
