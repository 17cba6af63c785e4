-- `lvs_grammar::faults::fault_in` and `first_fault` meet their contracts: one law for each return and each turn of the loop. Assumes nothing.
use Rattle.std.proofs.Common.{◌∙◌, sym, ap, arith}
use Rattle.std.proofs.lemmas.Result.{err_from_is_err_and}
use Rattle.tlv.proofs.Cuts.{seen}
use Rattle.lvs_spec.specs.Places.{from}
use Rattle.lvs_grammar.specs.Faults.{fault_of}
use Rattle.lvs_grammar.proofs.Turns.{fault_deep, fault_below, fault_start, fault_end, fault_broken, fault_skips, fault_at_critical}
use Rattle.lvs_grammar.proofs.Turns.{fault_refused, plain_fault, plain_on, container_fault, container_on, part_short, part_within}
use Rattle.lvs_grammar.proofs.faults.+fault_in_first_fault.Goals as goal

pub fault_in-returns-then-depth-eq0 : goal.fault_in-returns-then-depth-eq0
fault_in-returns-then-depth-eq0 t c = c.fault_at.ensures ∙ fault_deep _ _ _ c.if-depth-eq0.true

pub fault_in-first_fault-requires : goal.fault_in-first_fault-requires
fault_in-first_fault-requires t c = (omega (arith, c.decreases, c.if-depth-eq0.false), c.requires)

pub fault_in-returns : goal.fault_in-returns
fault_in-returns t c = c.first_fault.ensures ∙ fault_below _ _ _ c.if-depth-eq0.false

-- ---- where the loop starts, and the end of the bytes

pub first_fault-loop-typ-init : goal.first_fault-loop-typ-init
first_fault-loop-typ-init t c = (fault_start _ _ _, omega arith)

pub first_fault-must-requires : goal.first_fault-must-requires
first_fault-must-requires t c = omega (arith, c.loop-typ.invariant.1, c.requires)

pub first_fault-returns-in-End : goal.first_fault-returns-in-End
first_fault-returns-in-End t c = c.must.ensures ∙ sym (c.loop-typ.invariant.0 ∙ fault_end _ _ _ _ _ c.element.ensures c.in-End.is c.may_end.ensures)

pub first_fault-fault_at-requires : goal.first_fault-fault_at-requires
first_fault-fault_at-requires t c = omega (arith, c.loop-typ.invariant.1, c.requires)

pub first_fault-returns-in-Malformed : goal.first_fault-returns-in-Malformed
first_fault-returns-in-Malformed t c = c.fault_at.ensures ∙ sym (c.loop-typ.invariant.0 ∙ fault_broken _ _ _ _ _ c.element.ensures c.in-Malformed.is)

-- ---- an optional element, a critical one, and one that may not stand there

pub first_fault-loop-typ-smaller-in-Optional : goal.first_fault-loop-typ-smaller-in-Optional
first_fault-loop-typ-smaller-in-Optional t c = omega (arith, seen _ _ c.element.ensures c.in-Found.is)

pub first_fault-loop-typ-preserved-in-Optional : goal.first_fault-loop-typ-preserved-in-Optional
first_fault-loop-typ-preserved-in-Optional t c = (
  c.loop-typ.invariant.0 ∙ fault_skips _ _ _ _ _ c.element.ensures c.in-Found.is _ c.meaning_of.ensures c.in-Optional.is,
  omega (arith, seen _ _ c.element.ensures c.in-Found.is),
)

pub first_fault-fault_at-requires-in-Critical : goal.first_fault-fault_at-requires-in-Critical
first_fault-fault_at-requires-in-Critical t c = omega (arith, c.loop-typ.invariant.1, c.requires)

pub first_fault-returns-in-Critical : goal.first_fault-returns-in-Critical
first_fault-returns-in-Critical t c =
    c.fault_at-in-Critical.ensures
    ∙ sym (c.loop-typ.invariant.0 ∙ fault_at_critical _ _ _ _ _ c.element.ensures c.in-Found.is _ c.meaning_of.ensures c.in-Critical.is)

pub first_fault-fault_at-requires-in_default : goal.first_fault-fault_at-requires-in_default
first_fault-fault_at-requires-in_default t c = omega (arith, c.loop-typ.invariant.1, c.requires)

pub first_fault-returns-in_default : goal.first_fault-returns-in_default
first_fault-returns-in_default t c =
    c.fault_at-in_default.ensures
    ∙ sym (c.loop-typ.invariant.0
    ∙ fault_refused _ _ _ _ _ c.element.ensures c.in-Found.is _ c.meaning_of.ensures c.in-Known.is _ c.next_state.ensures c.in_default.is)

pub first_fault-slice_bounds-inside-count : goal.first_fault-slice_bounds-inside-count
first_fault-slice_bounds-inside-count t c = omega (arith, seen _ _ c.element.ensures c.in-Found.is)

pub first_fault-slice_bounds-inside-start : goal.first_fault-slice_bounds-inside-start
first_fault-slice_bounds-inside-start t c = omega (arith, seen _ _ c.element.ensures c.in-Found.is)

pub first_fault-slice_bounds-inside-end : goal.first_fault-slice_bounds-inside-end
first_fault-slice_bounds-inside-end t c = omega (arith, seen _ _ c.element.ensures c.in-Found.is)

-- ---- plain bytes

pub first_fault-leaf_fault-requires : goal.first_fault-leaf_fault-requires
first_fault-leaf_fault-requires t c = let f = seen _ _ c.element.ensures c.in-Found.is in (omega (arith, f), part_short _ _ _ _ f.order f.within c.requires)

pub first_fault-loop-typ-smaller-in-Continue-1 : goal.first_fault-loop-typ-smaller-in-Continue-1
first_fault-loop-typ-smaller-in-Continue-1 t c = omega (arith, seen _ _ c.element.ensures c.in-Found.is)

pub first_fault-loop-typ-preserved-in-Continue-1 : goal.first_fault-loop-typ-preserved-in-Continue-1
first_fault-loop-typ-preserved-in-Continue-1 t c = (
  c.loop-typ.invariant.0
      ∙ plain_on _ _ _ _ _ c.element.ensures c.in-Found.is _ c.meaning_of.ensures c.in-Known.is _ c.next_state.ensures c.in-Some.is c.in-Plain.is
      c.leaf_fault.ensures (ap fault_of c.in_ok-leaf_fault-in-Plain.was),
  omega (arith, seen _ _ c.element.ensures c.in-Found.is),
)

pub first_fault-returns-in_err-leaf_fault-in-Plain : goal.first_fault-returns-in_err-leaf_fault-in-Plain
first_fault-returns-in_err-leaf_fault-in-Plain t c =
    let p = err_from_is_err_and c.from_residual.result c.from_residual.ensures.1 in
    rw (p.1, p.2)
    (sym (c.loop-typ.invariant.0
    ∙ plain_fault _ _ _ _ _ c.element.ensures c.in-Found.is _ c.meaning_of.ensures c.in-Known.is _ c.next_state.ensures c.in-Some.is c.in-Plain.is
    c.leaf_fault.ensures (ap fault_of c.in_err-leaf_fault-in-Plain.was)))

-- ---- a container

pub first_fault-fault_in-requires : goal.first_fault-fault_in-requires
first_fault-fault_in-requires t c =
    let f = seen _ _ c.element.ensures c.in-Found.is in
    (omega (arith, c.decreases), omega (arith, part_short _ _ _ _ f.order f.within c.requires))

pub first_fault-counted_from-requires : goal.first_fault-counted_from-requires
first_fault-counted_from-requires t c =
    let f = seen _ _ c.element.ensures c.in-Found.is in
    part_within _ _ _ _ _ _ c.fault_in.ensures (part_short _ _ _ _ f.order f.within c.requires)

pub first_fault-returns-in_err-counted_from-in-Container : goal.first_fault-returns-in_err-counted_from-in-Container
first_fault-returns-in_err-counted_from-in-Container t c =
    let p = err_from_is_err_and c.from_residual-in_err-counted_from-in-Container.result c.from_residual-in_err-counted_from-in-Container.ensures.1 in
    rw (p.1, p.2)
    (sym (c.loop-typ.invariant.0
    ∙ container_fault _ _ _ _ _ c.element.ensures c.in-Found.is _ c.meaning_of.ensures c.in-Known.is _ c.next_state.ensures c.in-Some.is c.in-Container.is
    (c.counted_from.ensures ∙ ap (from c.in-Found.start) c.fault_in.ensures) (ap fault_of c.in_err-counted_from-in-Container.was)))

pub first_fault-loop-typ-smaller : goal.first_fault-loop-typ-smaller
first_fault-loop-typ-smaller t c = omega (arith, seen _ _ c.element.ensures c.in-Found.is)

pub first_fault-loop-typ-preserved : goal.first_fault-loop-typ-preserved
first_fault-loop-typ-preserved t c = (
  c.loop-typ.invariant.0
      ∙ container_on _ _ _ _ _ c.element.ensures c.in-Found.is _ c.meaning_of.ensures c.in-Known.is _ c.next_state.ensures c.in-Some.is c.in-Container.is
      (c.counted_from.ensures ∙ ap (from c.in-Found.start) c.fault_in.ensures) (ap fault_of c.in_ok-counted_from-in-Container.was),
  omega (arith, seen _ _ c.element.ensures c.in-Found.is),
)
