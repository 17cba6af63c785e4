-- `lvs_certificates::read_list` meets its contract. Assumes nothing.
use Rattle.std.proofs.Common.{arith}
use Rattle.lvs_certificates.proofs.Searches.{read_many, read_unfit, read_fit, unfit_below}
use Rattle.lvs_certificates.proofs.read_list.Goals as goal

pub returns-then-too_many : goal.returns-then-too_many
returns-then-too_many c = read_many _ c.too_many.ensures c.if-too_many.true

pub overflow_cast-index : goal.overflow_cast-index
overflow_cast-index c = omega (arith, unfit_below _ c.too_many.ensures c.if-too_many.false c.first_unfit.ensures c.in-Some.is)

pub returns-in-Some : goal.returns-in-Some
returns-in-Some c = read_unfit _ c.too_many.ensures c.if-too_many.false c.first_unfit.ensures c.in-Some.is

pub returns : goal.returns
returns c = read_fit _ c.too_many.ensures c.if-too_many.false c.first_unfit.ensures c.in_default.is
