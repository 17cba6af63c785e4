-- `lvs_rules::sweeps::sweep`: the lowest so far, and the lowest of what is left, is the lowest of all.
use Rattle.std.proofs.Common.{◌≡◌, ℕ, List}
use Rattle.std.specs.Prelude.{Option}
use Rattle.std.specs.Fn.{FnReturnsAt}
use Rattle.tlv.specs.Answers.{elements_left}
use Rattle.lvs_spec.specs.declared.refusal.Rule.{Rule}
use Rattle.lvs_rules.specs.Broken.{number}
use Rattle.lvs_rules.proofs.Loops.{Swept}
use Rattle.lvs_rules.proofs.sweeps.sweep.Given as goal

abbrev pub invariant-loop-element : goal.invariant-loop-element
invariant-loop-element g l =
    (rule : List ℕ → ℕ) → ((b : List ℕ) (r : Option Rule) → FnReturnsAt g.F.Fn l.rule_of b r → number r ≡ rule b)
    → Swept rule l.wanted l.s (elements_left l.element-iterator) (number l.lowest)
