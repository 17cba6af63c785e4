-- `lvs_constraints::Trial::argument` meets its contract. Assumes nothing.
use Rattle.std.proofs.Common.{sym, ap, ◌∙◌}
use Rattle.tlv.specs.Answers.{elements_left}
use Rattle.lvs_spec.specs.Model.{Argument}
use Rattle.lvs_spec.specs.Walk.{argument_in}
use Rattle.lvs_constraints.specs.Trials.{bindings}
use Rattle.lvs_constraints.proofs.Holds.{first_argument_in, argument_listed, value_here, tag_here, argument_later, no_argument}
use Rattle.lvs_constraints.proofs.Trial.argument.Goals as goal

pub loop-e-init : goal.loop-e-init
loop-e-init c =
    ap first_argument_in (ap elements_left c.into_iter-e-iterator.ensures.into_iter_gives ∙ c.of-e-items.ensures.left) ∙ sym (argument_listed _)

pub returns-then-e-eq-VALUE : goal.returns-then-e-eq-VALUE
unfolding argument_in
returns-then-e-eq-VALUE c =
    let found = sym c.loop-e.invariant ∙ ap first_argument_in c.in-Some.ensures.steps ∙ value_here _ _ c.if-e-eq-VALUE.true in
    record { is = ap (argument_in (bindings c.args.self.now)) found }

pub returns-then-e-eq-TAG : goal.returns-then-e-eq-TAG
returns-then-e-eq-TAG c =
    let found = sym c.loop-e.invariant ∙ ap first_argument_in c.in-Some.ensures.steps ∙ tag_here _ _ c.if-e-eq-TAG.true in
    record { is = ap (argument_in (bindings c.args.self.now)) (found ∙ ap Argument.tag (sym c.number_of.ensures)) ∙ c.bound.ensures.is }

pub loop-e-preserved : goal.loop-e-preserved
loop-e-preserved c =
    sym (argument_later _ _ c.if-e-eq-VALUE.false c.if-e-eq-TAG.false) ∙ sym (ap first_argument_in c.in-Some.ensures.steps) ∙ c.loop-e.invariant

pub returns : goal.returns
returns c =
    let none-left = sym c.loop-e.invariant ∙ ap first_argument_in c.in-None.ensures.steps.0 in
    record { is = ap (argument_in (bindings c.args.self.now)) none-left ∙ no_argument (bindings c.args.self.now) }
