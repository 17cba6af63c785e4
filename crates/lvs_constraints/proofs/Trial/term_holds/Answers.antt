-- `lvs_constraints::Trial::term_holds` meets its contract. Assumes nothing.
use Rattle.std.proofs.Common.{sym, ap, ◌∙◌}
use Rattle.lvs_spec.specs.Walk.{bound_to}
use Rattle.lvs_constraints.specs.Trials.{bindings, content}
use Rattle.lvs_constraints.proofs.Holds.{bound_same, term_value, term_tag, term_call}
use Rattle.lvs_constraints.proofs.Trial.term_holds.Goals as goal

pub returns-in-33 : goal.returns-in-33
returns-in-33 c = c.compare.ensures.equal ∙ sym (term_value _ _ _ _ c.in-33.is)

pub returns-in-Some : goal.returns-in-Some
returns-in-Some c =
    let t = c.args.self.now in
    c.compare-in-Some.ensures.equal ∙ sym (bound_same _ _ _ c.in-Some.ensures) ∙ ap (λ n. bound_to (bindings t) n (content t)) c.number_of.ensures
    ∙ sym (term_tag _ _ _ _ c.in-35.is)

pub returns-in-None : goal.returns-in-None
returns-in-None c =
    let t = c.args.self.now in
    sym (bound_same _ _ _ c.in-None.ensures) ∙ ap (λ n. bound_to (bindings t) n (content t)) c.number_of.ensures ∙ sym (term_tag _ _ _ _ c.in-35.is)

pub returns-in-49 : goal.returns-in-49
returns-in-49 c = c.call_holds.ensures ∙ sym (term_call _ _ _ _ c.in-49.is)
