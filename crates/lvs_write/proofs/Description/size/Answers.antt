use Rattle.std.proofs.Common.{sym, ◌∙◌}
use borrow.Author.Tests.{eqb-true, eqb-false}
use Rattle.lvs_write.proofs.Whole.{not_described, numbers_left, texts_left, described_whole}
use Rattle.lvs_write.proofs.Description.size.Goals as goal

pub returns-in_err-end : goal.returns-in_err-end
returns-in_err-end c = rw c.from_residual.ensures (sym (not_described _ _ c.in_err-end.ensures))

pub returns-then-not-is_empty : goal.returns-then-not-is_empty
returns-then-not-is_empty c = sym (numbers_left _ _ c.in_ok-end.ensures (eqb-false _ _ (sym c.is_empty.ensures ∙ c.if-not-is_empty.true)))

pub returns-then-not-is_empty-2 : goal.returns-then-not-is_empty-2
returns-then-not-is_empty-2 c =
    sym
    (texts_left _ _ c.in_ok-end.ensures (eqb-true _ _ (sym c.is_empty.ensures ∙ c.if-not-is_empty.false))
    (eqb-false _ _ (sym c.is_empty-2.ensures ∙ c.if-not-is_empty-2.true)))

pub returns : goal.returns
returns c =
    rw c.cap.ensures
    (sym
    (described_whole _ _ c.in_ok-end.ensures (eqb-true _ _ (sym c.is_empty.ensures ∙ c.if-not-is_empty.false))
    (eqb-true _ _ (sym c.is_empty-2.ensures ∙ c.if-not-is_empty-2.false))))
