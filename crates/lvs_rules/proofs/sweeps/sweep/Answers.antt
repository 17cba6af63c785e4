-- `lvs_rules::sweeps::sweep` meets its contract. Assumes nothing.
use Rattle.std.proofs.Common.{◌∙◌, ap, refl}
use Rattle.tlv.specs.Answers.{elements_left}
use Rattle.lvs_rules.proofs.Items.{number_most}
use Rattle.lvs_rules.proofs.Loops.{none_swept, one_swept, other_swept, all_swept}
use Rattle.lvs_rules.proofs.sweeps.sweep.Goals as goal

pub loop-element-init : goal.loop-element-init
loop-element-init g c rule h =
    rw (ap elements_left c.into_iter-element-iterator.ensures.into_iter_gives ∙ c.of-element-items.ensures.left) (none_swept rule c.args.wanted _)

pub loop-element-preserved-then-element-wanted : goal.loop-element-preserved-then-element-wanted
loop-element-preserved-then-element-wanted g c rule h =
    let inv = rw c.in-Some.ensures.steps at c.loop-element.invariant rule h in
    let told = h _ _ (record { shown = _; shows = refl; says = record { met = c.rule_of.ensures } }) in
    one_swept rule c.args.wanted inv c.if-element-wanted.true told c.lower-lowest.ensures

pub loop-element-preserved : goal.loop-element-preserved
loop-element-preserved g c rule h =
    let inv = rw c.in-Some.ensures.steps at c.loop-element.invariant rule h in
    other_swept rule c.args.wanted inv c.if-element-wanted.false

pub returns : goal.returns
returns g c rule h =
    let inv = rw c.in-None.ensures.steps.0 at c.loop-element.invariant rule h in
    all_swept rule c.args.wanted (number_most c.loop-element.lowest) inv
