-- The verdict on the bytes of a model, from what the code finds in them. Assumes nothing.
use mathlib.Core.Path.{◌≡◌, refl, sym, ◌∙◌}
use mathlib.Core.List.{List, [], ◌∷◌, map, map-map}
use Prim.Native.Nat.{ℕ, suc, ◌≤◌, ◌<◌, min}
use native.Mathlib.Omega.{arith}
use lib.ListN.{length, take, length-map}
use Rattle.std.specs.Prelude.{Option as Answer}
use Rattle.lvs_spec.specs.Limits.{max_nodes}
use Rattle.lvs_spec.specs.Types as type
use Rattle.tlv.specs.Fields.{insides, the_integer}
use Rattle.lvs_spec.specs.Model.{node_of, symbol_of, model_of}
use Rattle.lvs_spec.specs.Verdict.{Verdict, refused, judge}
use Rattle.lvs_rules.specs.Lowest.{least_of, named_rule, node_rule, parent_index, symbol_rule, tag_rule}
use Rattle.lvs_rules.specs.Faults.{Fault, earlier, lowest_from, no_fault, lowest, verdict_of}
use Rattle.lvs_rules.proofs.Least.{least_map}
use Rattle.lvs_rules.proofs.Verdict.{judge_few, judge_many}

lowest_map : {A B : Type 0} (f : ℕ → B → ℕ) (h : A → B) (a : Fault) (i : ℕ) (xs : List A)
    → lowest_from f a i (map h xs) ≡ lowest_from (λ i x. f i (h x)) a i xs
unfolding lowest_from
lowest_map f h a i [] = refl
lowest_map f h a i (x ∷ xs) = lowest_map f h (earlier a (record { rule = f i (h x); node = i })) (suc i) xs

module _ (s : List ℕ) {n : ℕ} (count : n ≡ length (insides type.Node s)) where
  node_count : length (model_of s).nodes ≡ n
  unfolding model_of
  node_count = length-map (insides type.Node s) node_of ∙ sym count

  pub too_many : max_nodes < n → refused 4 0 ≡ judge (model_of s)
  too_many h = let e = node_count in sym (judge_many (model_of s) (omega arith))

  module _ (all : List (Answer ℕ)) (filled : take (length (insides type.Node s)) all ≡ map (λ b. parent_index (node_of b)) (insides type.Node s)) where
    pub as_many : n ≡ length (take n all)
    as_many = rw (count, filled, length-map)

    pub few_enough : n ≤ max_nodes → (length (insides type.Node s) ≤ max_nodes) × (length (take n all) ≡ length (insides type.Node s))
    few_enough few = let e = as_many in (omega arith, omega arith)

    all_parents : map parent_index (model_of s).nodes ≡ take n all
    unfolding model_of
    all_parents = map-map parent_index node_of (insides type.Node s) ∙ sym filled ∙ rw count

    nodes_fault : (start : ℕ)
        → lowest (node_rule start (take n all)) (model_of s).nodes ≡ lowest (λ i b. node_rule start (take n all) i (node_of b)) (insides type.Node s)
    unfolding model_of lowest
    nodes_fault start = lowest_map (node_rule start (take n all)) node_of no_fault 0 (insides type.Node s)

    symbols_rule : least_of symbol_rule (model_of s).symbols ≡ least_of (λ b. tag_rule (the_integer type.Tag b)) (insides type.TagSymbol s)
    unfolding model_of symbol_rule symbol_of
    symbols_rule = least_map symbol_rule symbol_of (insides type.TagSymbol s)

    start_is : (model_of s).start ≡ the_integer type.NodeId s
    unfolding model_of
    start_is = refl

    pub found : {start symbols named whole : ℕ} {fault : Fault} {v : Verdict} → n ≤ max_nodes → start ≡ the_integer type.NodeId s
        → fault ≡ lowest (λ i b. node_rule start (take n all) i (node_of b)) (insides type.Node s)
        → symbols ≡ least_of (λ b. tag_rule (the_integer type.Tag b)) (insides type.TagSymbol s)
        → named ≡ named_rule 7 n start → whole ≡ min symbols named → v ≡ verdict_of fault whole n
        → v ≡ judge (model_of s)
    found {start} few a f g h w e =
        let l = node_count in
        let at = start_is ∙ sym a in
        rw (judge_few (model_of s) (omega arith), all_parents, at, nodes_fault start, symbols_rule, node_count, ← f, ← g, ← h, ← w) e
