-- `lvs_grammar::leaves::value_fault` meets its contract: what stands at the first place says what the definition finds. Assumes nothing.
use Rattle.std.proofs.Common.{◌∙◌, sym, arith, le-leb}
use Rattle.std.proofs.lemmas.Bool.{lt-leb}
use Rattle.tlv.proofs.Cuts.{seen}
use Rattle.lvs_grammar.proofs.PlainBytes.{valued_found, valued_else}
use Rattle.lvs_grammar.proofs.leaves.value_fault.Goals as goal

pub returns-in_default : goal.returns-in_default
returns-in_default c = c.fault_at.ensures ∙ sym (valued_else _ _ c.element.ensures c.in_default.not-Found)

pub returns-then-typ-gt-MAX_COMPONENT_TYPE : goal.returns-then-typ-gt-MAX_COMPONENT_TYPE
returns-then-typ-gt-MAX_COMPONENT_TYPE c =
    c.fault_at-then-typ-gt-MAX_COMPONENT_TYPE.ensures
    ∙ sym (valued_found _ _ c.element.ensures c.in-Found.is ∙ rw (lt-leb _ _ c.if-typ-gt-MAX_COMPONENT_TYPE.true))

pub overflow_add-start : goal.overflow_add-start
overflow_add-start c = omega (arith, seen _ _ c.element.ensures c.in-Found.is, c.requires)

pub must-requires : goal.must-requires
must-requires c = omega (arith, seen _ _ c.element.ensures c.in-Found.is, c.requires)

pub returns : goal.returns
returns c = c.must.ensures ∙ sym (valued_found _ _ c.element.ensures c.in-Found.is ∙ rw (le-leb _ _ c.if-typ-gt-MAX_COMPONENT_TYPE.false))
