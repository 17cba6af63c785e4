-- `lvs_grammar::order::next_state` meets its contract: each type of an order by the law of a slot, whose test is computed. Assumes nothing.
use Rattle.std.proofs.Common.{inl, inr, refl}
use Rattle.lvs_spec.specs.Grammar.{order}
use Rattle.lvs_grammar.proofs.States.{slot_in, refused_in}
use Rattle.lvs_grammar.proofs.order.next_state.Goals as goal

pub returns-in-Model-eq97 : goal.returns-in-Model-eq97
unfolding order
returns-in-Model-eq97 c = slot_in c.in-Model-eq97.is-0 c.in-Model-eq97.is-1 c.slot.ensures refl

pub returns-in-Model-eq37 : goal.returns-in-Model-eq37
unfolding order
returns-in-Model-eq37 c = slot_in c.in-Model-eq37.is-0 c.in-Model-eq37.is-1 c.slot-in-Model-eq37.ensures refl

pub returns-in-Model-eq105 : goal.returns-in-Model-eq105
unfolding order
returns-in-Model-eq105 c = slot_in c.in-Model-eq105.is-0 c.in-Model-eq105.is-1 c.slot-in-Model-eq105.ensures refl

pub returns-in-Model-eq99 : goal.returns-in-Model-eq99
unfolding order
returns-in-Model-eq99 c = slot_in c.in-Model-eq99.is-0 c.in-Model-eq99.is-1 c.slot-in-Model-eq99.ensures refl

pub returns-in-Model-eq103 : goal.returns-in-Model-eq103
unfolding order
returns-in-Model-eq103 c = slot_in c.in-Model-eq103.is-0 c.in-Model-eq103.is-1 c.slot-in-Model-eq103.ensures refl

pub returns-in-Node-eq37 : goal.returns-in-Node-eq37
unfolding order
returns-in-Node-eq37 c = slot_in c.in-Node-eq37.is-0 c.in-Node-eq37.is-1 c.slot-in-Node-eq37.ensures refl

pub returns-in-Node-eq87 : goal.returns-in-Node-eq87
unfolding order
returns-in-Node-eq87 c = slot_in c.in-Node-eq87.is-0 c.in-Node-eq87.is-1 c.slot-in-Node-eq87.ensures refl

pub returns-in-Node-eq41 : goal.returns-in-Node-eq41
unfolding order
returns-in-Node-eq41 c = slot_in c.in-Node-eq41.is-0 c.in-Node-eq41.is-1 c.slot-in-Node-eq41.ensures refl

pub returns-in-Node-eq81 : goal.returns-in-Node-eq81
unfolding order
returns-in-Node-eq81 c = slot_in c.in-Node-eq81.is-0 c.in-Node-eq81.is-1 c.slot-in-Node-eq81.ensures refl

pub returns-in-Node-eq83 : goal.returns-in-Node-eq83
unfolding order
returns-in-Node-eq83 c = slot_in c.in-Node-eq83.is-0 c.in-Node-eq83.is-1 c.slot-in-Node-eq83.ensures refl

pub returns-in-Node-eq85 : goal.returns-in-Node-eq85
unfolding order
returns-in-Node-eq85 c = slot_in c.in-Node-eq85.is-0 c.in-Node-eq85.is-1 c.slot-in-Node-eq85.ensures refl

pub returns-in-ValueEdge-eq37 : goal.returns-in-ValueEdge-eq37
unfolding order
returns-in-ValueEdge-eq37 c = slot_in c.in-ValueEdge-eq37.is-0 c.in-ValueEdge-eq37.is-1 c.slot-in-ValueEdge-eq37.ensures refl

pub returns-in-ValueEdge-eq33 : goal.returns-in-ValueEdge-eq33
unfolding order
returns-in-ValueEdge-eq33 c = slot_in c.in-ValueEdge-eq33.is-0 c.in-ValueEdge-eq33.is-1 c.slot-in-ValueEdge-eq33.ensures refl

pub returns-in-PatternEdge-eq37 : goal.returns-in-PatternEdge-eq37
unfolding order
returns-in-PatternEdge-eq37 c = slot_in c.in-PatternEdge-eq37.is-0 c.in-PatternEdge-eq37.is-1 c.slot-in-PatternEdge-eq37.ensures refl

pub returns-in-PatternEdge-eq35 : goal.returns-in-PatternEdge-eq35
unfolding order
returns-in-PatternEdge-eq35 c = slot_in c.in-PatternEdge-eq35.is-0 c.in-PatternEdge-eq35.is-1 c.slot-in-PatternEdge-eq35.ensures refl

pub returns-in-PatternEdge-eq67 : goal.returns-in-PatternEdge-eq67
unfolding order
returns-in-PatternEdge-eq67 c = slot_in c.in-PatternEdge-eq67.is-0 c.in-PatternEdge-eq67.is-1 c.slot-in-PatternEdge-eq67.ensures refl

pub returns-in-Constraint-eq65 : goal.returns-in-Constraint-eq65
unfolding order
returns-in-Constraint-eq65 c = slot_in c.in-Constraint-eq65.is-0 c.in-Constraint-eq65.is-1 c.slot-in-Constraint-eq65.ensures refl

pub returns-in-ConstraintOption-eq33 : goal.returns-in-ConstraintOption-eq33
unfolding order
returns-in-ConstraintOption-eq33 c =
    elim c.in-ConstraintOption-eq33.is-1 [
      | inl e ↦ slot_in c.in-ConstraintOption-eq33.is-0 e c.slot-in-ConstraintOption-eq33.ensures refl
      | inr f ↦
          elim f [
            | inl e ↦ slot_in c.in-ConstraintOption-eq33.is-0 e c.slot-in-ConstraintOption-eq33.ensures refl
            | inr e ↦ slot_in c.in-ConstraintOption-eq33.is-0 e c.slot-in-ConstraintOption-eq33.ensures refl
          ]
    ]

pub returns-in-UserFnCall-eq39 : goal.returns-in-UserFnCall-eq39
unfolding order
returns-in-UserFnCall-eq39 c = slot_in c.in-UserFnCall-eq39.is-0 c.in-UserFnCall-eq39.is-1 c.slot-in-UserFnCall-eq39.ensures refl

pub returns-in-UserFnCall-eq51 : goal.returns-in-UserFnCall-eq51
unfolding order
returns-in-UserFnCall-eq51 c = slot_in c.in-UserFnCall-eq51.is-0 c.in-UserFnCall-eq51.is-1 c.slot-in-UserFnCall-eq51.ensures refl

pub returns-in-UserFnArg-eq33 : goal.returns-in-UserFnArg-eq33
unfolding order
returns-in-UserFnArg-eq33 c =
    elim c.in-UserFnArg-eq33.is-1 [
      | inl e ↦ slot_in c.in-UserFnArg-eq33.is-0 e c.slot-in-UserFnArg-eq33.ensures refl
      | inr e ↦ slot_in c.in-UserFnArg-eq33.is-0 e c.slot-in-UserFnArg-eq33.ensures refl
    ]

pub returns-in-TagSymbol-eq35 : goal.returns-in-TagSymbol-eq35
unfolding order
returns-in-TagSymbol-eq35 c = slot_in c.in-TagSymbol-eq35.is-0 c.in-TagSymbol-eq35.is-1 c.slot-in-TagSymbol-eq35.ensures refl

pub returns-in-TagSymbol-eq41 : goal.returns-in-TagSymbol-eq41
unfolding order
returns-in-TagSymbol-eq41 c = slot_in c.in-TagSymbol-eq41.is-0 c.in-TagSymbol-eq41.is-1 c.slot-in-TagSymbol-eq41.ensures refl

pub returns-in_default : goal.returns-in_default
unfolding order
returns-in_default c = refused_in c.in_default.is-0 _ _ c.in_default.is-1

pub returns-in_default-2 : goal.returns-in_default-2
unfolding order
returns-in_default-2 c = refused_in c.in_default.is-0 _ _ c.in_default.is-1

pub returns-in_default-3 : goal.returns-in_default-3
unfolding order
returns-in_default-3 c = refused_in c.in_default.is-0 _ _ c.in_default.is-1

pub returns-in_default-4 : goal.returns-in_default-4
unfolding order
returns-in_default-4 c = refused_in c.in_default.is-0 _ _ c.in_default.is-1

pub returns-in_default-5 : goal.returns-in_default-5
unfolding order
returns-in_default-5 c = refused_in c.in_default.is-0 _ _ c.in_default.is-1

pub returns-in_default-6 : goal.returns-in_default-6
unfolding order
returns-in_default-6 c = let n = c.in_default.is-1.1 in refused_in c.in_default.is-0 _ _ (((tt, λ e. n (inl e)), λ e. n (inr (inl e))), λ e. n (inr (inr e)))

pub returns-in_default-7 : goal.returns-in_default-7
unfolding order
returns-in_default-7 c = refused_in c.in_default.is-0 _ _ c.in_default.is-1

pub returns-in_default-8 : goal.returns-in_default-8
unfolding order
returns-in_default-8 c = let n = c.in_default.is-1.1 in refused_in c.in_default.is-0 _ _ ((tt, λ e. n (inl e)), λ e. n (inr e))

pub returns-in_default-9 : goal.returns-in_default-9
unfolding order
returns-in_default-9 c = refused_in c.in_default.is-0 _ _ c.in_default.is-1
