-- `lvs_names::header` meets its contract. Assumes nothing.
use Rattle.std.proofs.Common.{sym, inl, inr}
use Rattle.tlv.proofs.Cuts.{seen}
use Rattle.lvs_names.proofs.Names.{nothing, header_none, header_type, header_more, header_found}
use Rattle.lvs_names.proofs.header.Goals as goal

pub returns-in_default : goal.returns-in_default
returns-in_default c = sym (header_none (nothing _ _ c.element.ensures c.in_default.not-Found))

pub returns-then-end-name : goal.returns-then-end-name
returns-then-end-name c = sym (header_found (seen _ _ c.element.ensures c.in-Found.is) c.if-typ-eq-NAME.true c.if-end-name.true)

pub returns-else-typ-eq-NAME : goal.returns-else-typ-eq-NAME
returns-else-typ-eq-NAME c =
    let f = seen _ _ c.element.ensures c.in-Found.is in
    elim c.else-typ-eq-NAME.either [ inl p ↦ sym (header_more f p.0 p.1) | inr n ↦ sym (header_type f n) ]
