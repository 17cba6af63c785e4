-- `lvs_rules::options::arguments_rule` meets its contract. Assumes nothing.
use Rattle.std.proofs.Common.{◌∙◌, sym}
use Rattle.lvs_rules.proofs.Items.{unknown_call, known_call, number_broken}
use Rattle.lvs_rules.proofs.options.arguments_rule.Goals as goal

pub returns-in-Some : goal.returns-in-Some
returns-in-Some c =
    rw (c.then_some.ensures, c.arity.ensures) (number_broken _ _)
    ∙ known_call _ c.inside_of.ensures c.count_of-n.ensures (sym c.function_of.ensures ∙ c.in-Some.is)

pub returns-in-None : goal.returns-in-None
returns-in-None c = unknown_call _ c.inside_of.ensures (sym c.function_of.ensures ∙ c.in-None.is)
