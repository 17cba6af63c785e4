-- `lvs_constraints::Trial::call_holds` meets its contract. Assumes nothing.
use Rattle.std.proofs.Common.{sym, ap, ◌∙◌, ◌==◌, eqb}
use Rattle.std.specs.declared.option.Option.TheVariants.{Some}
use Rattle.tlv.specs.Lists.{is}
use Rattle.lvs_spec.specs.Names.{same}
use Rattle.lvs_constraints.specs.Trials.{content}
use Rattle.lvs_constraints.proofs.Holds.{call_eq, call_eq_type, call_id, call_year, call_unknown}
use Rattle.lvs_constraints.proofs.Trial.call_holds.Goals as goal

pub returns-in-Some : goal.returns-in-Some
returns-in-Some c =
    c.compare.ensures.equal ∙ sym (ap (is (λ a. same a (content c.args.self.now))) c.in-Some.ensures.is)
    ∙ sym (call_eq _ _ _ c.inside_of.ensures c.inside_of-argument.ensures c.function_of.ensures (c.in-Some-Eq.is ∙ ap Some c.in-Some-Eq.field-0-is))

pub returns-in-None-argument : goal.returns-in-None-argument
returns-in-None-argument c =
    sym (ap (is (λ a. same a (content c.args.self.now))) c.in-None-argument.ensures.is)
    ∙ sym (call_eq _ _ _ c.inside_of.ensures c.inside_of-argument.ensures c.function_of.ensures (c.in-Some-Eq.is ∙ ap Some c.in-Some-Eq.field-0-is))

pub returns-in-Some-argument : goal.returns-in-Some-argument
returns-in-Some-argument c =
    c.same_type.ensures ∙ sym (ap (is (λ a. eqb a.type (content c.args.self.now).type)) c.in-Some-argument.ensures.is)
    ∙ sym (call_eq_type _ _ _ c.inside_of.ensures c.inside_of-argument.ensures c.function_of.ensures
    (c.in-Some-EqType.is ∙ ap Some c.in-Some-EqType.field-0-is))

pub returns-in-None-argument-2 : goal.returns-in-None-argument-2
returns-in-None-argument-2 c =
    sym (ap (is (λ a. eqb a.type (content c.args.self.now).type)) c.in-None-argument-2.ensures.is)
    ∙ sym (call_eq_type _ _ _ c.inside_of.ensures c.inside_of-argument.ensures c.function_of.ensures
    (c.in-Some-EqType.is ∙ ap Some c.in-Some-EqType.field-0-is))

pub returns-in-Some-IsValidId : goal.returns-in-Some-IsValidId
returns-in-Some-IsValidId c =
    ap (λ n. n == 6) c.value_size.ensures
    ∙ sym (call_id _ _ _ c.inside_of.ensures c.inside_of-argument.ensures c.function_of.ensures
    (c.in-Some-IsValidId.is ∙ ap Some c.in-Some-IsValidId.field-0-is))

pub returns-in-Some-IsValidYear : goal.returns-in-Some-IsValidYear
returns-in-Some-IsValidYear c =
    ap (λ n. n == 4) c.value_size-in-Some-IsValidYear.ensures
    ∙ sym (call_year _ _ _ c.inside_of.ensures c.inside_of-argument.ensures c.function_of.ensures
    (c.in-Some-IsValidYear.is ∙ ap Some c.in-Some-IsValidYear.field-0-is))

pub returns-in-None : goal.returns-in-None
returns-in-None c = sym (call_unknown _ _ _ c.inside_of.ensures c.inside_of-argument.ensures c.function_of.ensures c.in-None.is)
