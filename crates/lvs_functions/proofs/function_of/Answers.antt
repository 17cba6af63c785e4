-- `lvs_functions::function_of` meets its contract: each answer from the comparisons that led to it. Assumes nothing.
use Rattle.lvs_functions.proofs.Functions.{compared, is_eq, is_eq_type, is_id, is_year, is_none_of_them}
use Rattle.lvs_functions.proofs.function_of.Goals as goal

pub returns-then-eq : goal.returns-then-eq
returns-then-eq c = is_eq _ (compared _ _ _ c.eq.ensures c.as_slice.ensures c.if-eq.true)

pub returns-then-eq-2 : goal.returns-then-eq-2
returns-then-eq-2 c =
    is_eq_type _ (compared _ _ _ c.eq.ensures c.as_slice.ensures c.if-eq.false) (compared _ _ _ c.eq-else-eq.ensures c.as_slice-else-eq.ensures c.if-eq-2.true)

pub returns-then-eq-3 : goal.returns-then-eq-3
returns-then-eq-3 c =
    is_id _ (compared _ _ _ c.eq.ensures c.as_slice.ensures c.if-eq.false) (compared _ _ _ c.eq-else-eq.ensures c.as_slice-else-eq.ensures c.if-eq-2.false)
    (compared _ _ _ c.eq-else-eq-2.ensures c.as_slice-else-eq-2.ensures c.if-eq-3.true)

pub returns-then-eq-4 : goal.returns-then-eq-4
returns-then-eq-4 c =
    is_year _ (compared _ _ _ c.eq.ensures c.as_slice.ensures c.if-eq.false) (compared _ _ _ c.eq-else-eq.ensures c.as_slice-else-eq.ensures c.if-eq-2.false)
    (compared _ _ _ c.eq-else-eq-2.ensures c.as_slice-else-eq-2.ensures c.if-eq-3.false)
    (compared _ _ _ c.eq-else-eq-3.ensures c.as_slice-else-eq-3.ensures c.if-eq-4.true)

pub returns-else-eq-4 : goal.returns-else-eq-4
returns-else-eq-4 c =
    is_none_of_them _ (compared _ _ _ c.eq.ensures c.as_slice.ensures c.if-eq.false)
    (compared _ _ _ c.eq-else-eq.ensures c.as_slice-else-eq.ensures c.if-eq-2.false)
    (compared _ _ _ c.eq-else-eq-2.ensures c.as_slice-else-eq-2.ensures c.if-eq-3.false)
    (compared _ _ _ c.eq-else-eq-3.ensures c.as_slice-else-eq-3.ensures c.if-eq-4.false)
