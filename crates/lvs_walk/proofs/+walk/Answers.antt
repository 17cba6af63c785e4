-- `lvs_walk::walk` meets its contract. Assumes nothing.
use Rattle.std.proofs.Common.{set, refl, ap, ◌∙◌, arith}
use Rattle.lvs_bindings.specs.Names.{name_for, text_place}
use Rattle.lvs_edges.proofs.Crossed.{crossed_leads, crossed_named}
use Rattle.lvs_edges.proofs.Rows.{no_component, found_at, ends_low}
use Rattle.lvs_walk.specs.Search.{side_of, afterwards}
use Rattle.lvs_walk.proofs.Hits.{end_match, end_packet, end_key}
use Rattle.lvs_walk.proofs.Turns.{turn_first, turn_named, turn_none, ordinal_low, turn_shut, turn_unbound, turn_kept, turn_found, begun}
use Rattle.lvs_walk.proofs.+walk.Goals as goal

-- ---- no component is left

pub walk-requires : goal.walk-requires
unfolding name_for side_of
walk-requires t c =
    let g = ap (afterwards c.args.search.names.key.now) c.in-Packet.is in
    (omega (arith, c.decreases, g), (c.requires.only_named, (tt, omega (arith, c.requires.few, g))))

pub returns-in-Match : goal.returns-in-Match
returns-in-Match t c =
    let s = c.args.search in
    let named-for = c.of.ensures ∙ ap (name_for s.names.packet.now s.names.key.now) c.side_of-side.ensures in
    end_match _ _ _ c.args.goal _ _ _ _ _
    (no_component s.names.packet.now s.names.key.now (side_of c.args.goal) c.args.at named-for c.component_at.ensures c.in_default.is) c.in-Match.is

pub returns-in-Packet : goal.returns-in-Packet
returns-in-Packet t c =
    let s = c.args.search in
    let named-for = c.of.ensures ∙ ap (name_for s.names.packet.now s.names.key.now) c.side_of-side.ensures in
    end_packet _ _ _ c.args.goal _ _ _ _ _
    (no_component s.names.packet.now s.names.key.now (side_of c.args.goal) c.args.at named-for c.component_at.ensures c.in_default.is)
    c.in-Packet.is c.requires.started c.walk.ensures

pub returns-in-Key : goal.returns-in-Key
returns-in-Key t c =
    let s = c.args.search in
    let named-for = c.of.ensures ∙ ap (name_for s.names.packet.now s.names.key.now) c.side_of-side.ensures in
    end_key _ _ _ c.args.goal _ _ _ _ _
    (no_component s.names.packet.now s.names.key.now (side_of c.args.goal) c.args.at named-for c.component_at.ensures c.in_default.is)
    c.in-Key.is c.if_listed.ensures

-- ---- the component and the Node's edges

pub place-text-requires : goal.place-text-requires
place-text-requires t c =
    let s = c.args.search in
    let named-for = c.of.ensures ∙ ap (name_for s.names.packet.now s.names.key.now) c.side_of-side.ensures in
    let low = ends_low _ _ (side_of c.args.goal) c.args.at s.packet_short s.key_short named-for c.component_at.ensures c.in-Some.is in
    (s.packet_short, omega arith)

pub loop-ordinal-init : goal.loop-ordinal-init
loop-ordinal-init t c =
    rw (c.into_iter-ordinal-iterator.ensures.into_iter_gives, c.enumerate-ordinal-items.ensures.source, c.enumerate-ordinal-items.ensures.count)
    (turn_first _ c.args.search.count c.requires.only_named c.edges.ensures.few c.edges.ensures.left)

pub cross-crossed-requires : goal.cross-crossed-requires
cross-crossed-requires t c =
    let s = c.args.search in
    let named-for = c.of.ensures ∙ ap (name_for s.names.packet.now s.names.key.now) c.side_of-side.ensures in
    let text-at = c.place-text.ensures ∙ ap (λ g. text_place s.names.packet.now g c.args.at) c.side_of-side.ensures in
    record {
      only_named = turn_named c.loop-ordinal.invariant;
      stands = (found_at _ _ (side_of c.args.goal) c.args.at s.packet_short s.key_short named-for c.component_at.ensures c.in-Some.is text-at).stands;
    }

-- ---- an edge that leads on

pub walk-found-requires : goal.walk-found-requires
walk-found-requires t c =
    let s = c.args.search in
    let named-for = c.of.ensures ∙ ap (name_for s.names.packet.now s.names.key.now) c.side_of-side.ensures in
    let text-at = c.place-text.ensures ∙ ap (λ g. text_place s.names.packet.now g c.args.at) c.side_of-side.ensures in
    let f = found_at _ _ (side_of c.args.goal) c.args.at s.packet_short s.key_short named-for c.component_at.ensures c.in-Some.is text-at in (
      omega (arith, c.decreases, f.some, f.within),
      (
        crossed_named _ (turn_named c.loop-ordinal.invariant) (crossed_leads c.cross-crossed.ensures),
        (c.requires.started, omega (arith, c.requires.few, f.some, f.within)),
      ),
    )

pub overflow_add-depth : goal.overflow_add-depth
overflow_add-depth t c = omega (arith, c.requires.few)

pub put_word-requires : goal.put_word-requires
put_word-requires t c = let h = c.in-Some-2.ensures.steps in let low = ordinal_low c.loop-ordinal.invariant h.0 in omega (arith, h.1)

pub returns-in-Some-found : goal.returns-in-Some-found
returns-in-Some-found t c =
    let h = c.in-Some-2.ensures.steps in
    let s = c.args.search in
    let named-for = c.of.ensures ∙ ap (name_for s.names.packet.now s.names.key.now) c.side_of-side.ensures in
    let text-at = c.place-text.ensures ∙ ap (λ g. text_place s.names.packet.now g c.args.at) c.side_of-side.ensures in
    begun _ s.named _ _ _ _ c.args.goal
    (found_at _ _ (side_of c.args.goal) c.args.at s.packet_short s.key_short named-for c.component_at.ensures c.in-Some.is text-at)
    (turn_found c.loop-ordinal.invariant h.0 (crossed_leads c.cross-crossed.ensures) c.in-Some-crossed.is c.in-Some-found.ensures refl
    (c.put_word.ensures ∙ ap (set c.walk-found.new.path c.args.depth) h.1))

pub loop-ordinal-preserved-in-Some-bound : goal.loop-ordinal-preserved-in-Some-bound
loop-ordinal-preserved-in-Some-bound t c =
    let h = c.in-Some-2.ensures.steps in
    rw h.2
    (turn_unbound c.loop-ordinal.invariant h.0 (crossed_leads c.cross-crossed.ensures) c.in-Some-crossed.is c.walk-found.ensures
    c.in_default-found.is c.in-Some-bound.is c.unbind.ensures)

pub loop-ordinal-preserved-in_default-bound : goal.loop-ordinal-preserved-in_default-bound
loop-ordinal-preserved-in_default-bound t c =
    let h = c.in-Some-2.ensures.steps in
    rw h.2
    (turn_kept c.loop-ordinal.invariant h.0 (crossed_leads c.cross-crossed.ensures) c.in-Some-crossed.is c.walk-found.ensures
    c.in_default-found.is c.in_default-bound.is)

pub loop-ordinal-preserved : goal.loop-ordinal-preserved
loop-ordinal-preserved t c =
    let h = c.in-Some-2.ensures.steps in
    rw h.2 (turn_shut c.loop-ordinal.invariant h.0 (crossed_leads c.cross-crossed.ensures) c.in_default-crossed.is)

pub returns : goal.returns
returns t c =
    let s = c.args.search in
    let named-for = c.of.ensures ∙ ap (name_for s.names.packet.now s.names.key.now) c.side_of-side.ensures in
    let text-at = c.place-text.ensures ∙ ap (λ g. text_place s.names.packet.now g c.args.at) c.side_of-side.ensures in
    begun _ s.named _ _ _ _ c.args.goal
    (found_at _ _ (side_of c.args.goal) c.args.at s.packet_short s.key_short named-for c.component_at.ensures c.in-Some.is text-at)
    (turn_none c.loop-ordinal.invariant c.in-None.ensures.steps.0.0)
