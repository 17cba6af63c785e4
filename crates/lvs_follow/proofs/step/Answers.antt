-- `lvs_follow::step` meets its contract. Assumes nothing.
use Rattle.std.proofs.Common.{ap, subst, ◌∙◌}
use mathlib.Core.Option as math
use Rattle.lvs_spec.specs.Demands.{OnlyNamed}
use Rattle.lvs_bindings.specs.Slots.{bindings_of}
use Rattle.lvs_edges.specs.Edges.{edge_of}
use Rattle.lvs_edges.proofs.Crossed.{crossed_leads, value_crossed}
use Rattle.lvs_follow.proofs.Steps.{nth_none, nth_some, step_none, step_crossed}
use Rattle.lvs_follow.proofs.step.Goals as goal

pub returns-in_err-edge : goal.returns-in_err-edge
returns-in_err-edge c =
    let x = c.args.context in
    let named = subst (λ n. OnlyNamed n (bindings_of x.names.packet.now x.names.key.now c.args.slots.now.spans)) x.count c.requires.only_named in
    rw c.from_residual.ensures
    (step_none _ _ _ _ _ _ _ named (nth_none c.args.ordinal c.nth.result c.nth.new.self c.edges.ensures.left c.nth.ensures.ran c.in_err-edge.was))

pub returns-in-Value : goal.returns-in-Value
returns-in-Value c =
    let there = nth_some c.args.ordinal c.nth.result c.nth.new.self c.edges.ensures.left c.nth.ensures.ran c.in_ok-edge.was in
    step_crossed _ _ _ _ _ _ _ c.args.context.count c.requires.only_named
    (there ∙ ap (λ k. math.some (edge_of k c.in_ok-edge.edge.inside.now)) c.in-Value.is)
    (crossed_leads (value_crossed c.requires c.cross_value.ensures))

pub returns-in-Pattern : goal.returns-in-Pattern
returns-in-Pattern c =
    let there = nth_some c.args.ordinal c.nth.result c.nth.new.self c.edges.ensures.left c.nth.ensures.ran c.in_ok-edge.was in
    step_crossed _ _ _ _ _ _ _ c.args.context.count c.requires.only_named
    (there ∙ ap (λ k. math.some (edge_of k c.in_ok-edge.edge.inside.now)) c.in-Pattern.is) (crossed_leads c.cross_pattern.ensures)
