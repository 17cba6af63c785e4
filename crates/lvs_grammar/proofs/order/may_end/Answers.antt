-- `lvs_grammar::order::may_end` meets its contract: each kind by the law of an end, whose test is computed. Assumes nothing.
use Rattle.std.proofs.Common.{inl, inr, refl, sym, ◌∙◌}
use Rattle.std.proofs.Math.Dec.{leb-zero}
use Rattle.lvs_spec.specs.Grammar.{order, final}
use Rattle.lvs_grammar.proofs.States.{end_in}
use Rattle.lvs_grammar.proofs.order.may_end.Goals as goal

pub returns-in-Model : goal.returns-in-Model
unfolding order final
returns-in-Model c = end_in c.in-Model.is 3 _ refl

pub returns-in-Node : goal.returns-in-Node
unfolding order final
returns-in-Node c = end_in c.in-Node.is 1 _ refl

pub returns-in-ValueEdge : goal.returns-in-ValueEdge
unfolding order final
returns-in-ValueEdge c =
    elim c.in-ValueEdge.is [ inl e ↦ end_in e 2 _ refl | inr f ↦ elim f [ inl e ↦ end_in e 2 _ refl | inr e ↦ end_in e 2 _ refl ] ]

pub returns-in-Constraint : goal.returns-in-Constraint
unfolding order final
returns-in-Constraint c =
    sym (leb-zero c.args.state) ∙ elim c.in-Constraint.is [ inl e ↦ end_in e 0 _ refl | inr e ↦ end_in e 0 _ refl ]

pub returns-in-UserFnCall : goal.returns-in-UserFnCall
unfolding order final
returns-in-UserFnCall c = elim c.in-UserFnCall.is [ inl e ↦ end_in e 1 _ refl | inr e ↦ end_in e 1 _ refl ]
