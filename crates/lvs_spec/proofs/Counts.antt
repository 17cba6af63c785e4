-- Counts of 128 and more make every Tag named, so they are alike. Assumes nothing.
use Prim.Native.Nat.{ℕ, zero, suc, ◌≤◌}
use mathlib.Core.Path.{◌≡◌, refl, sym, ap, ◌∙◌, subst}
use mathlib.Core.Bool.{Bool, true, false, cond, ◌&&◌, not}
use mathlib.Core.List.{List, [], ◌∷◌}
use mathlib.Core.Option.{Option, none, some}
use native.Mathlib.Omega.{arith}
use borrow.Author.Tests.{ltb-true, ltb-false, lt-ltb}
use lib.Dec.{ltb}
use lib.ListN.{length, length-replicate, get_or}
use lib.Seq.{set_out}
use Rattle.tlv.specs.Lists.{onward, guard, is_some, numbered}
use Rattle.lvs_spec.specs.Limits.{max_tag}
use Rattle.lvs_spec.specs.Model.{Model, Edge, edges, node_at}
use Rattle.lvs_spec.specs.Names.{Component}
use Rattle.lvs_spec.specs.Walk.{Binding, packet_row, key_row, Bindings, Match, Event, looked, begin, no_bindings, bind_tag}
use Rattle.lvs_spec.specs.Walk.{crosses, bindings_after, cross, trace, packet_trace, key_trace, lists}
use Rattle.lvs_spec.specs.Demands.{counted}
use Rattle.lvs_spec.proofs.Trace.{each_same}
use Rattle.lvs_spec.proofs.Bindings.{cross_changed, length_changed, packet_bindings}
use Rattle.lvs_spec.proofs.Same.{SameTraces, same_traces, through}

cond_same : {A : Type 0} (t : Bool) (a : A) → cond t a a ≡ a
cond_same true a = refl
cond_same false a = refl

-- bindings of 128 Tags are filled alike
bind_large : {count : ℕ} → max_tag ≤ count → (s : Bindings) (t : ℕ) (b : Binding) → length s ≡ max_tag → bind_tag max_tag s t b ≡ bind_tag count s t b
unfolding bind_tag
bind_large l s zero b n = refl
bind_large {count} l s (suc i) b n = go (ltb i max_tag) refl
  where
    go : (u : Bool) → ltb i max_tag ≡ u → bind_tag max_tag s (suc i) b ≡ bind_tag count s (suc i) b
    go true e = let low = ltb-true i max_tag e in rw (e, lt-ltb i count (omega arith))
    go false e =
        let past = ltb-false i max_tag e in
        rw (e, set_out s i (some b) (omega (arith, past, n))) (sym (cond_same (ltb i count && not (is_some (get_or s i none))) s))

after_large : {count : ℕ} → max_tag ≤ count → (s : Bindings) (b : Binding) (e : Edge) → length s ≡ max_tag
    → bindings_after max_tag s b e ≡ bindings_after count s b e
unfolding bindings_after
after_large l s b (Edge.value e) n = refl
after_large l s b (Edge.pattern e) n = ap (guard (crosses s b.component.content e)) (bind_large l s e.tag b n)

module _ (m : Model) (l : max_tag ≤ m.pattern_count) where
  abbrev all_named : Model
  all_named = counted max_tag m

  cross_large : (c : Binding) (x : Match) (i : ℕ) (e : Edge) → length x.bindings ≡ max_tag → cross all_named c x i e ≡ cross m c x i e
  unfolding cross counted
  cross_large c x i e n = rw (after_large l x.bindings c e n)

  -- behind an edge that is crossed the bindings are as long, so that a law for the rest of the name can be used
  onward_large : {f g : Match → List (Event Match)} → ((y : Match) → length y.bindings ≡ max_tag → f y ≡ g y) → (c : Binding) (x : Match) (i : ℕ)
      (e : Edge) → length x.bindings ≡ max_tag → (o : Option Match) → cross m c x i e ≡ o
      → onward f (cross all_named c x i e) ≡ onward g (cross m c x i e)
  onward_large h c x i e n none k = rw (cross_large c x i e n, k)
  onward_large h c x i e n (some y) k = rw (cross_large c x i e n, k) (h y (length_changed (cross_changed m c x i e k) ∙ n))

  trace_large : (cs : List Binding) (x : Match) → length x.bindings ≡ max_tag → trace all_named cs x ≡ trace m cs x
  unfolding trace counted node_at
  trace_large [] x n = refl
  trace_large (c ∷ cs) x n =
      each_same (λ (i, e). ap (λ l. looked ∷ l) (onward_large (trace_large cs) c x i e n (cross m c x i e) refl))
      (numbered 0 (edges (node_at m x.node)))

  packet_large : (cs : List Component) → packet_trace all_named cs ≡ packet_trace m cs
  unfolding packet_trace begin counted no_bindings
  packet_large cs = trace_large (packet_row cs) (begin m no_bindings) (length-replicate {A = Option Binding} max_tag none)

  key_large : (key : List Component) (x : Match) → length x.bindings ≡ max_tag → key_trace all_named key x ≡ key_trace m key x
  unfolding key_trace begin counted
  key_large key x n = trace_large (key_row key) (begin m x.bindings) n

  lists_large : (v k : ℕ) → lists all_named v k ≡ lists m v k
  unfolding lists counted node_at
  lists_large v k = refl

  large_same : SameTraces all_named m
  large_same = same_traces packet_large (λ ps ks x i. key_large ks x (packet_bindings m ps i)) lists_large

-- two models that differ only in such counts have the same traces
pub same_counts : {m n : Model} → max_tag ≤ m.pattern_count → max_tag ≤ n.pattern_count → counted max_tag m ≡ counted max_tag n → SameTraces m n
same_counts {m} {n} l k e = through (large_same m l) (subst (λ o. SameTraces o n) (sym e) (large_same n k))
