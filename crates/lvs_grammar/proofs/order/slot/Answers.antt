-- `lvs_grammar::order::slot` meets its contract by its two tests. Assumes nothing.
use Rattle.std.proofs.Common.{inl, inr, le-leb}
use Rattle.std.proofs.lemmas.Bool.{lt-leb}
use Rattle.lvs_grammar.specs.States.{slotted}
use Rattle.lvs_grammar.proofs.order.slot.Goals as goal

pub returns-then-state-hi : goal.returns-then-state-hi
unfolding slotted
returns-then-state-hi c = record { is = rw (le-leb _ _ c.if-lo-state.true, le-leb _ _ c.if-state-hi.true) }

pub returns-else-lo-state : goal.returns-else-lo-state
unfolding slotted
returns-else-lo-state c =
    elim c.else-lo-state.either [
      | inl h ↦ record { is = rw (le-leb _ _ h.0, lt-leb _ _ h.1) }
      | inr h ↦ record { is = rw (lt-leb _ _ h) }
    ]
