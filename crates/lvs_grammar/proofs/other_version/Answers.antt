-- `lvs_grammar::other_version` meets its contract. Assumes nothing.
use Rattle.std.proofs.Common.{◌∙◌, sym, ap}
use Rattle.tlv.specs.Answers.{elements_left}
use Rattle.lvs_grammar.proofs.Turns.{other_among, other_all, other_none, other_skips, other_first}
use Rattle.lvs_grammar.proofs.other_version.Goals as goal

pub loop-element-init : goal.loop-element-init
loop-element-init c =
    ap other_among (ap elements_left c.into_iter-element-iterator.ensures.into_iter_gives ∙ c.of-element-items.ensures.left) ∙ other_all _

pub returns-then-not-is_optional : goal.returns-then-not-is_optional
returns-then-not-is_optional c =
    c.is_other_version.ensures
    ∙ sym (other_first _ _ (sym c.is_optional.ensures ∙ c.if-not-is_optional.true))
    ∙ sym (ap other_among c.in-Some.ensures.steps) ∙ c.loop-element.invariant

pub loop-element-preserved : goal.loop-element-preserved
loop-element-preserved c =
    sym (other_skips _ _ (sym c.is_optional.ensures ∙ c.if-not-is_optional.false)) ∙ sym (ap other_among c.in-Some.ensures.steps) ∙ c.loop-element.invariant

pub returns : goal.returns
returns c = sym other_none ∙ sym (ap other_among c.in-None.ensures.steps.0) ∙ c.loop-element.invariant
