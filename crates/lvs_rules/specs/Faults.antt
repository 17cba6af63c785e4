-- The lowest rule that Nodes break, with the first Node that breaks it; and what the answers say.
use Rattle.std.specs.Prelude.{ℕ, suc, cond, List, [], ◌∷◌, ltb, eqb, Result, Ok, Err}
use Rattle.lvs_spec.specs.Refusals.{refusal_of}
use Rattle.lvs_spec.specs.declared.refusal.Refusal.{Refusal}
use Rattle.lvs_spec.specs.Verdict.{Verdict, accepted, refused}
use Rattle.lvs_rules.specs.Lowest.{no_rule}
use Rattle.lvs_rules.specs.Broken.{number}
use Rattle.lvs_rules.specs.declared.Fault as code

abbrev pub judged_of : Result ℕ Refusal → Verdict
judged_of (Ok n) = accepted n
judged_of (Err r) = refused (refusal_of r).number (refusal_of r).at

-- a rule, or none, and the index of the first Node that breaks it
pub record Fault : Type 0 where
  pub rule : ℕ
  pub node : ℕ

abbrev pub fault_of : code.Fault → Fault
fault_of fault = record { rule = number fault.rule; node = fault.node }

-- the one of the lower rule; of two with the same rule the first
unfoldable pub earlier : Fault → Fault → Fault
earlier a b = cond (ltb b.rule a.rule) b a

-- f i x is the lowest rule that x breaks at position i; `fault` is the lowest before it
unfoldable pub lowest_from : {A : Type 0} → (ℕ → A → ℕ) → Fault → ℕ → List A → Fault
lowest_from f fault i [] = fault
lowest_from f fault i (x ∷ xs) = lowest_from f (earlier fault (record { rule = f i x; node = i })) (suc i) xs

abbrev pub no_fault : Fault
no_fault = record { rule = no_rule; node = 0 }

unfoldable pub lowest : {A : Type 0} → (ℕ → A → ℕ) → List A → Fault
lowest f xs = lowest_from f no_fault 0 xs

-- a fault in a Node names it, unless it is a Tag's
unfoldable pub named : Fault → ℕ
named fault = cond (eqb fault.rule 5) 0 fault.node

-- the verdict, where `fault` is that of the Nodes and `whole` the lowest of the rules that TagSymbols and StartId break
unfoldable pub verdict_of : Fault → ℕ → ℕ → Verdict
verdict_of fault whole count =
    cond (ltb whole fault.rule) (refused whole 0) (cond (eqb fault.rule no_rule) (accepted count) (refused fault.rule (named fault)))
