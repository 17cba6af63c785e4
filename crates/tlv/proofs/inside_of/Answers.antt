-- `tlv::inside_of` meets its contract. Assumes nothing.
use Rattle.std.proofs.Common.{sym, ap, ◌∙◌}
use Rattle.tlv.specs.Answers.{elements_left}
use Rattle.tlv.proofs.Fields.{first_inside, inside_listed, inside_here, inside_later}
use Rattle.tlv.proofs.inside_of.Goals as goal

pub loop-element-init : goal.loop-element-init
loop-element-init c =
    ap (first_inside c.args.typ) (ap elements_left c.into_iter-element-iterator.ensures.into_iter_gives ∙ c.of-element-items.ensures.left)
    ∙ sym (inside_listed _ _)

pub returns-then-element-typ : goal.returns-then-element-typ
returns-then-element-typ c =
    sym (inside_here _ _ _ c.if-element-typ.true) ∙ sym (ap (first_inside c.args.typ) c.in-Some.ensures.steps) ∙ c.loop-element.invariant

pub loop-element-preserved : goal.loop-element-preserved
loop-element-preserved c =
    sym (inside_later _ _ _ c.if-element-typ.false) ∙ sym (ap (first_inside c.args.typ) c.in-Some.ensures.steps) ∙ c.loop-element.invariant

pub returns : goal.returns
returns c = sym (ap (first_inside c.args.typ) c.in-None.ensures.steps.0) ∙ c.loop-element.invariant
