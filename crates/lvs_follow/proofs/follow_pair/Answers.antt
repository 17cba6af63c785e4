-- `lvs_follow::follow_pair` meets its contract. Assumes nothing.
use Rattle.std.proofs.Common.{sym, subst}
use Rattle.lvs_spec.specs.Model.{model_of}
use Rattle.lvs_spec.specs.Demands.{OnlyNamed}
use Rattle.lvs_spec.proofs.Temporary.{none_named}
use Rattle.lvs_bindings.specs.Slots.{bindings_of}
use Rattle.lvs_bindings.proofs.Bound.{to_end, none_bound}
use Rattle.lvs_follow.proofs.Pairs.{packet_nowhere, key_nowhere, arrives}
use Rattle.lvs_follow.proofs.follow_pair.Goals as goal

pub follow_name-packet-requires : goal.follow_name-packet-requires
follow_name-packet-requires c =
    let a = c.args in rw (none_bound a.names.packet.now a.names.key.now c.new-slots.ensures) (none_named _)

-- the packet's words lead nowhere
pub returns-in_default : goal.returns-in_default
returns-in_default c =
    let a = c.args in
    packet_nowhere (model_of a.nodes.now.model.now) a.names.packet.now a.names.key.now a.path.now a.rows.packet a.rows.key
    c.requires.good.packet_row.count c.new-slots.ensures c.follow_name-packet.ensures c.in_default.is

pub follow_name-key-requires : goal.follow_name-key-requires
follow_name-key-requires c =
    let a = c.args in
    subst (λ n. OnlyNamed n (bindings_of a.names.packet.now a.names.key.now c.follow_name-packet.new.slots.spans)) (sym c.named.ensures)
    c.follow_name-packet.ensures.only_named

-- the key's words lead nowhere
pub returns-in_default-key : goal.returns-in_default-key
returns-in_default-key c =
    let a = c.args in
    key_nowhere (model_of a.nodes.now.model.now) a.names.packet.now a.names.key.now a.path.now a.rows.packet a.rows.key
    c.requires.good.packet_row.count c.new-slots.ensures c.follow_name-packet.ensures c.in-Some.is
    (to_end a.path.now a.rows.packet.count) c.follow_name-key.ensures c.in_default-key.is

pub returns : goal.returns
returns c =
    let a = c.args in
    arrives (model_of a.nodes.now.model.now) a.names.packet.now a.names.key.now a.path.now a.rows.packet a.rows.key
    c.requires.good.packet_row.count c.new-slots.ensures c.follow_name-packet.ensures c.in-Some.is
    (to_end a.path.now a.rows.packet.count) c.follow_name-key.ensures c.in-Some-key.is
    c.lists.ensures
