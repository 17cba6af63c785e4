-- What is known of a model that the rules accept: no test of the table finds a fault, and the number is that of its Nodes. Assumes nothing.
use Prim.Native.Nat.{ℕ, ◌≤◌}
use mathlib.Core.Path.{◌≡◌, refl}
use mathlib.Core.Bool.{Bool, true, false}
use mathlib.Core.List.{List, [], ◌∷◌}
use mathlib.Core.Option.{Option, none, some}
use native.Mathlib.Omega.{arith}
use borrow.Author.Tests.{ltb-false}
use lib.Dec.{ltb}
use lib.ListN.{length}
use Rattle.lvs_spec.specs.Limits.{max_nodes}
use Rattle.lvs_spec.specs.Model.{Model}
use Rattle.lvs_spec.specs.Verdict.{Test, accepted, refused, fault, rules, decide, judge}

abbrev pub Kept : Model → List (ℕ × Test) → Type 0
Kept m [] = Unit {0}
Kept m (r ∷ rs) = (fault m r.1 ≡ none) × Kept m rs

pub not_refused : {r i n : ℕ} → refused r i ≡ accepted n → ⊥
not_refused p = let z : ◌≡◌ {A = ℕ} 0 1 = cc in omega arith

decide_kept : (m : Model) (rs : List (ℕ × Test)) {n : ℕ} → decide m rs ≡ accepted n → Kept m rs × (length m.nodes ≡ n)
unfolding decide
decide_kept m [] h = (tt, cc)
decide_kept m (r ∷ rs) {n} h = go (fault m r.1) refl (λ h. decide_kept m rs {n = n} h)
  where
    go : (o : Option ℕ) → fault m r.1 ≡ o → (decide m rs ≡ accepted n → Kept m rs × (length m.nodes ≡ n)) → Kept m (r ∷ rs) × (length m.nodes ≡ n)
    go none q rec = let (ks, e) = rec (rw (q, decide) at h) in ((q, ks), e)
    go (some i) q rec = absurd (not_refused (rw (q, decide) at h))

module _ (m : Model) {n : ℕ} (h : judge m ≡ accepted n) where
  pub judge_kept : Kept m (rules m)
  unfolding judge
  judge_kept = (decide_kept m (rules m) h).0

  pub judge_count : length m.nodes ≡ n
  unfolding judge
  judge_count = (decide_kept m (rules m) h).1

  -- by rule 4
  pub judge_few : length m.nodes ≤ max_nodes
  unfolding rules fault
  judge_few = go (ltb max_nodes (length m.nodes)) refl
    where
      go : (t : Bool) → ltb max_nodes (length m.nodes) ≡ t → length m.nodes ≤ max_nodes
      go true p = let q : ◌≡◌ {A = Option ℕ} (some 0) none = rw p at judge_kept.0 in let z : ◌≡◌ {A = ℕ} 0 1 = cc in absurd (omega arith)
      go false p = ltb-false max_nodes (length m.nodes) p
