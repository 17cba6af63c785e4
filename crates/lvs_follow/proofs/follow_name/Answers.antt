-- `lvs_follow::follow_name` meets its contract. Assumes nothing.
use Rattle.std.proofs.Common.{refl, sym, subst, arith}
use Rattle.lvs_spec.specs.Demands.{OnlyNamed}
use Rattle.lvs_bindings.specs.Slots.{bindings_of}
use Rattle.lvs_edges.proofs.Rows.{no_component, found_at, ends_low}
use Rattle.lvs_follow.proofs.Steps.{come_first, come_end, come_short, come_more, come_shut, come_on}
use Rattle.lvs_follow.proofs.follow_name.Goals as goal

pub loop-ordinal-init : goal.loop-ordinal-init
loop-ordinal-init c =
    let x = c.args.context in
    come_first _ c.start-node.ensures
    (subst (λ n. OnlyNamed n (bindings_of x.names.packet.now x.names.key.now c.args.slots.now.spans)) x.count c.requires)

pub returns-in_err-component : goal.returns-in_err-component
returns-in_err-component c =
    let s = c.args.context.names in
    rw c.from_residual.ensures
    (come_more c.loop-ordinal.invariant c.loop-ordinal-test.true
    (no_component s.packet.now s.key.now c.args.side c.loop-ordinal.at c.of-name.ensures c.component_at.ensures c.in_err-component.was))

pub place-text-requires : goal.place-text-requires
place-text-requires c =
    let x = c.args.context in
    let low = ends_low _ _ c.args.side c.loop-ordinal.at x.packet_short x.key_short c.of-name.ensures c.component_at.ensures c.in_ok-component.was in
    (x.packet_short, omega arith)

pub step-requires : goal.step-requires
step-requires c =
    let x = c.args.context in
    record {
      only_named = subst (λ n. OnlyNamed n (bindings_of x.names.packet.now x.names.key.now c.loop-ordinal.slots.spans)) (sym x.count)
          c.loop-ordinal.invariant.only_named;
      stands = (found_at _ _ c.args.side c.loop-ordinal.at x.packet_short x.key_short c.of-name.ensures c.component_at.ensures c.in_ok-component.was
          c.place-text.ensures).stands;
    }

pub returns-in_err-crossing : goal.returns-in_err-crossing
returns-in_err-crossing c =
    let x = c.args.context in
    rw c.from_residual-in_err-crossing.ensures
    (come_shut c.loop-ordinal.invariant c.loop-ordinal-test.true
    (found_at _ _ c.args.side c.loop-ordinal.at x.packet_short x.key_short c.of-name.ensures c.component_at.ensures c.in_ok-component.was c.place-text.ensures)
    c.step.ensures c.in_err-crossing.was)

pub loop-ordinal-preserved : goal.loop-ordinal-preserved
loop-ordinal-preserved c =
    let x = c.args.context in
    come_on c.loop-ordinal.invariant c.loop-ordinal-test.true
    (found_at _ _ c.args.side c.loop-ordinal.at x.packet_short x.key_short c.of-name.ensures c.component_at.ensures c.in_ok-component.was c.place-text.ensures)
    c.step.ensures c.in_ok-crossing.was

pub returns-in-Some : goal.returns-in-Some
returns-in-Some c =
    let x = c.args.context in
    come_short c.loop-ordinal.invariant c.loop-ordinal-test.false
    (found_at _ _ c.args.side c.loop-ordinal.at x.packet_short x.key_short c.of-name.ensures c.component_at-2.ensures c.in-Some.is refl)

pub returns-in-None : goal.returns-in-None
returns-in-None c =
    let s = c.args.context.names in
    come_end c.loop-ordinal.invariant c.loop-ordinal-test.false
    (no_component s.packet.now s.key.now c.args.side c.loop-ordinal.at c.of-name.ensures c.component_at-2.ensures c.in-None.is)
